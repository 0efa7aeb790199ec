use Rattle.std.proofs.Common.{◌≡◌, ◌++◌, ◌+◌, drop, string_bytes}
use Rattle.core_text.specs.Memory.{bytes_lines}
use Rattle.core_text.proofs.memory.push_memory.Given as goal

abbrev pub invariant-loop-number : goal.invariant-loop-number
invariant-loop-number l = string_bytes l.text ++ bytes_lines l.number (l.address + l.number) (drop l.number l.bytes) ≡ string_bytes l.fn.text ++ bytes_lines 0 l.address l.bytes
