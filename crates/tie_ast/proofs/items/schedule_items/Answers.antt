use Rattle.std.proofs.Common.{rules, arith, ◌+◌, length, sym, ◌∙◌}
use Rattle.std.proofs.lemmas.Grind.{common_steps}
use Rattle.tie_grammar.specs.declared.symbol.Mark.TheVariants as m
use Rattle.tie_grammar.specs.Reading.{many}
use Rattle.tie_grammar.specs.Items.{schedule_item}
use Rattle.tie_ast.proofs.Turns.{until_stop, until_more, list_end}
use Rattle.tie_ast.proofs.items.schedule_items.Goals as goal

pub returns-then-sees : goal.returns-then-sees
unfolding many
returns-then-sees c =
    c.loop-turn.invariant ∙ until_stop m.EndBrace schedule_item (length c.args.rest.now + 1) c.loop-turn.turn c.loop-turn.found c.loop-turn.rest.now (omega arith) (sym c.sees.ensures ∙ c.if-sees.true)

pub returns-in_err-next : goal.returns-in_err-next
unfolding many
returns-in_err-next c =
    let e = c.loop-turn.invariant ∙ until_more m.EndBrace schedule_item (length c.args.rest.now + 1) c.loop-turn.turn c.loop-turn.found c.loop-turn.rest.now (omega arith) (sym c.sees.ensures ∙ c.if-sees.false) in
    first_of (search rules, grind (arith, common_steps))

pub loop-turn-preserved : goal.loop-turn-preserved
loop-turn-preserved c =
    let e = c.loop-turn.invariant ∙ until_more m.EndBrace schedule_item (length c.args.rest.now + 1) c.loop-turn.turn c.loop-turn.found c.loop-turn.rest.now (omega arith) (sym c.sees.ensures ∙ c.if-sees.false) in
    first_of (search rules, grind (arith, common_steps))

pub returns : goal.returns
unfolding many
returns c = c.loop-turn.invariant ∙ list_end _ (length c.args.rest.now + 1) c.loop-turn.turn c.loop-turn.found c.loop-turn.rest.now (omega arith)
