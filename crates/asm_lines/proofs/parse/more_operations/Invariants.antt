use Rattle.std.proofs.Common.{◌≡◌, ◌+◌, ◌-◌, ◌∷◌, [], length, drop}
use Rattle.asm_lines.specs.Reading.{list_from}
use Rattle.asm_lines.specs.declared.token.Mark.TheVariants as mark
use Rattle.asm_lines.specs.Lines.{sees, next_operation}
use Rattle.asm_lines.proofs.parse.more_operations.Given as goal

abbrev pub invariant-loop-turn : goal.invariant-loop-turn
invariant-loop-turn l =
    list_from (sees mark.Semicolon) (next_operation l.fn.desc) (length (drop l.fn.at l.tokens) + 1) (l.fn.first ∷ []) (drop l.fn.at l.tokens)
    ≡ list_from (sees mark.Semicolon) (next_operation l.fn.desc) (length (drop l.fn.at l.tokens) + 1 - l.turn) l.found.items (drop l.at l.tokens)
