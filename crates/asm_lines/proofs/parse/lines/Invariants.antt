use Rattle.std.proofs.Common.{◌≡◌, ◌+◌, ◌-◌, [], length, drop}
use Rattle.asm_lines.specs.Reading.{list_from}
use Rattle.asm_lines.specs.Lines.{some_left, line}
use Rattle.asm_lines.proofs.parse.lines.Given as goal

abbrev pub invariant-loop-turn : goal.invariant-loop-turn
invariant-loop-turn l =
    list_from some_left (line l.fn.desc) (length l.tokens + 1) [] l.tokens ≡ list_from some_left (line l.fn.desc) (l.turns - l.turn) l.found.items (drop l.at l.tokens)
