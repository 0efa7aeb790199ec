use Rattle.std.proofs.Common.{◌≡◌, false, rules, arith, ◌+◌, length, drop, sym, ap, ◌∙◌, Ok}
use Rattle.std.proofs.lemmas.Grind.{common_steps}
use Rattle.asm_lines.specs.Lines.{lines, line, some_left}
use Rattle.asm_lines.proofs.Turns.{list_stop, list_more, list_end}
use Rattle.asm_lines.proofs.Single.{some_left_at, none_left}
use Rattle.asm_lines.proofs.parse.lines.Goals as goal

pub returns-then-at-tokens : goal.returns-then-at-tokens
unfolding lines
returns-then-at-tokens c =
    let ts = drop c.loop-turn.at c.args.tokens.now in
    let none = none_left c.args.tokens.now c.loop-turn.at c.if-at-tokens.true in
    let stops : some_left ts ≡ false = ap some_left none in
    c.loop-turn.invariant ∙ list_stop some_left (line c.args.desc.now) (length c.args.tokens.now + 1) c.loop-turn.turn c.loop-turn.found.items ts (omega arith) stops
    ∙ ap (λ z. Ok (c.loop-turn.found.items, z)) none

pub returns-in_err-next : goal.returns-in_err-next
unfolding lines
returns-in_err-next c =
    let ts = drop c.loop-turn.at c.args.tokens.now in
    let goes = some_left_at c.args.tokens.now c.loop-turn.at c.if-at-tokens.false in
    let e = c.loop-turn.invariant ∙ list_more some_left (line c.args.desc.now) (length c.args.tokens.now + 1) c.loop-turn.turn c.loop-turn.found.items ts (omega arith) goes in
    first_of (search rules, grind (arith, common_steps))

pub loop-turn-preserved : goal.loop-turn-preserved
loop-turn-preserved c =
    let ts = drop c.loop-turn.at c.args.tokens.now in
    let goes = some_left_at c.args.tokens.now c.loop-turn.at c.if-at-tokens.false in
    let e = c.loop-turn.invariant ∙ list_more some_left (line c.args.desc.now) (length c.args.tokens.now + 1) c.loop-turn.turn c.loop-turn.found.items ts (omega arith) goes in
    first_of (search rules, grind (arith, common_steps))

pub returns : goal.returns
unfolding lines
returns c =
    let e = c.loop-turn.invariant ∙ list_end some_left (line c.args.desc.now) (length c.args.tokens.now + 1) c.loop-turn.turn c.loop-turn.found.items (drop c.loop-turn.at c.args.tokens.now) (omega arith) in
    first_of (search rules, grind (arith, common_steps))
