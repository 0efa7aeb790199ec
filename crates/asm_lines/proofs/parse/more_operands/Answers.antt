use Rattle.std.proofs.Common.{rules, arith, ◌+◌, length, drop, sym, ◌∙◌}
use Rattle.std.proofs.lemmas.Grind.{common_steps}
use Rattle.asm_lines.specs.declared.token.Mark.TheVariants as mark
use Rattle.asm_lines.specs.Lines.{more_operands, sees, next_operand}
use Rattle.asm_lines.proofs.Turns.{list_stop, list_more, list_end}
use Rattle.asm_lines.proofs.parse.more_operands.Goals as goal

pub returns-then-not-sees : goal.returns-then-not-sees
unfolding more_operands
returns-then-not-sees c =
    let e = c.loop-turn.invariant ∙ list_stop (sees mark.Comma) next_operand (length (drop c.args.at c.args.tokens.now) + 1) c.loop-turn.turn c.loop-turn.found.items (drop c.loop-turn.at c.args.tokens.now) (omega (arith, c.left-turns.ensures)) (sym c.sees.ensures ∙ c.if-not-sees.true) in
    first_of (search rules, grind (arith, common_steps))

pub returns-in_err-next : goal.returns-in_err-next
unfolding more_operands
returns-in_err-next c =
    let e = c.loop-turn.invariant ∙ list_more (sees mark.Comma) next_operand (length (drop c.args.at c.args.tokens.now) + 1) c.loop-turn.turn c.loop-turn.found.items (drop c.loop-turn.at c.args.tokens.now) (omega (arith, c.left-turns.ensures)) (sym c.sees.ensures ∙ c.if-not-sees.false) in
    first_of (search rules, grind (arith, common_steps))

pub loop-turn-preserved : goal.loop-turn-preserved
loop-turn-preserved c =
    let e = c.loop-turn.invariant ∙ list_more (sees mark.Comma) next_operand (length (drop c.args.at c.args.tokens.now) + 1) c.loop-turn.turn c.loop-turn.found.items (drop c.loop-turn.at c.args.tokens.now) (omega (arith, c.left-turns.ensures)) (sym c.sees.ensures ∙ c.if-not-sees.false) in
    first_of (search rules, grind (arith, common_steps))

pub returns : goal.returns
unfolding more_operands
returns c =
    let e = c.loop-turn.invariant ∙ list_end (sees mark.Comma) next_operand (length (drop c.args.at c.args.tokens.now) + 1) c.loop-turn.turn c.loop-turn.found.items (drop c.loop-turn.at c.args.tokens.now) (omega (arith, c.left-turns.ensures)) in
    first_of (search rules, grind (arith, common_steps))
