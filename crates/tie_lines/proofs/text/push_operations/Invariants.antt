use Rattle.std.proofs.Common.{◌≡◌, ◌++◌, drop, string_bytes}
use Rattle.tie_lines.specs.Lines.{operation_lines}
use Rattle.tie_lines.proofs.text.push_operations.Given as goal

abbrev pub invariant-loop-number : goal.invariant-loop-number
invariant-loop-number l = string_bytes l.text ++ operation_lines l.number (drop l.number l.ops) ≡ string_bytes l.fn.text ++ operation_lines 0 l.ops
