use Rattle.std.proofs.Common.{◌≡◌, ◌++◌, drop, string_bytes}
use Rattle.tie_lines.specs.Lines.{byte_lines}
use Rattle.tie_lines.proofs.text.image_text.Given as goal

abbrev pub invariant-loop-number : goal.invariant-loop-number
invariant-loop-number l = string_bytes l.text ++ byte_lines l.number (drop l.number l.bytes) ≡ byte_lines 0 l.bytes
