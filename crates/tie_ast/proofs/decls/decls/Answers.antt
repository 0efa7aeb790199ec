use Rattle.std.proofs.Common.{rules, arith, ◌+◌, length, ◌∙◌}
use Rattle.std.proofs.lemmas.Grind.{common_steps}
use Rattle.std.proofs.lemmas.Bool.Decides.{nat_tests}
use Rattle.tie_grammar.specs.Decls.{decl, decls}
use Rattle.tie_ast.proofs.Turns.{end_stop, end_more, list_end}
use Rattle.tie_ast.proofs.decls.decls.Goals as goal

pub returns-then-is_empty : goal.returns-then-is_empty
unfolding decls
returns-then-is_empty c =
    c.loop-turn.invariant ∙ end_stop (decl c.args.size) (length c.args.rest.now + 1) c.loop-turn.turn c.loop-turn.found c.loop-turn.rest.now (omega arith) (grind (arith, nat_tests))

pub returns-in_err-next : goal.returns-in_err-next
unfolding decls
returns-in_err-next c =
    let e = c.loop-turn.invariant ∙ end_more (decl c.args.size) (length c.args.rest.now + 1) c.loop-turn.turn c.loop-turn.found c.loop-turn.rest.now (omega arith) (grind (arith, nat_tests)) in
    first_of (search rules, grind (arith, common_steps))

pub loop-turn-preserved : goal.loop-turn-preserved
loop-turn-preserved c =
    let e = c.loop-turn.invariant ∙ end_more (decl c.args.size) (length c.args.rest.now + 1) c.loop-turn.turn c.loop-turn.found c.loop-turn.rest.now (omega arith) (grind (arith, nat_tests)) in
    first_of (search rules, grind (arith, common_steps))

pub returns : goal.returns
unfolding decls
returns c = c.loop-turn.invariant ∙ list_end _ (length c.args.rest.now + 1) c.loop-turn.turn c.loop-turn.found c.loop-turn.rest.now (omega arith)
