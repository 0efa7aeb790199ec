use Rattle.std.proofs.Common.{◌≡◌, ◌++◌, drop, string_bytes}
use Rattle.core_text.specs.Core.{register_lines}
use Rattle.core_text.proofs.text.push_registers.Given as goal

abbrev pub invariant-loop-number : goal.invariant-loop-number
invariant-loop-number l = string_bytes l.text ++ register_lines l.short 8 l.number (drop l.number l.registers) ≡ string_bytes l.fn.text ++ register_lines l.short 8 0 l.registers
