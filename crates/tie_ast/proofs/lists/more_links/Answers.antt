use Rattle.std.proofs.Common.{rules, arith, ◌+◌, length, sym, ◌∙◌}
use Rattle.std.proofs.lemmas.Grind.{common_steps}
use Rattle.tie_grammar.specs.Reading.{more_of}
use Rattle.tie_grammar.specs.Decls.{link}
use Rattle.tie_ast.proofs.Turns.{comma_stop, comma_more, list_end}
use Rattle.tie_ast.proofs.lists.more_links.Goals as goal

pub returns-then-not-sees : goal.returns-then-not-sees
unfolding more_of
returns-then-not-sees c =
    c.loop-turn.invariant ∙ comma_stop link (length c.args.rest.now + 1) c.loop-turn.turn c.loop-turn.found c.loop-turn.rest.now (omega arith) (sym c.sees.ensures ∙ c.if-not-sees.true)

pub returns-in_err-next : goal.returns-in_err-next
unfolding more_of
returns-in_err-next c =
    let e = c.loop-turn.invariant ∙ comma_more link (length c.args.rest.now + 1) c.loop-turn.turn c.loop-turn.found c.loop-turn.rest.now (omega arith) (sym c.sees.ensures ∙ c.if-not-sees.false) in
    first_of (search rules, grind (arith, common_steps))

pub loop-turn-preserved : goal.loop-turn-preserved
loop-turn-preserved c =
    let e = c.loop-turn.invariant ∙ comma_more link (length c.args.rest.now + 1) c.loop-turn.turn c.loop-turn.found c.loop-turn.rest.now (omega arith) (sym c.sees.ensures ∙ c.if-not-sees.false) in
    first_of (search rules, grind (arith, common_steps))

pub returns : goal.returns
unfolding more_of
returns c = c.loop-turn.invariant ∙ list_end _ (length c.args.rest.now + 1) c.loop-turn.turn c.loop-turn.found c.loop-turn.rest.now (omega arith)
