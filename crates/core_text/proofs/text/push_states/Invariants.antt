use Rattle.std.proofs.Common.{◌≡◌, ◌++◌, drop, string_bytes}
use Rattle.core_text.specs.Core.{state_lines}
use Rattle.core_text.proofs.text.push_states.Given as goal

abbrev pub invariant-loop-number : goal.invariant-loop-number
invariant-loop-number l = string_bytes l.text ++ state_lines (drop l.number l.desc.states) (drop l.number l.arch.states) ≡ string_bytes l.fn.text ++ state_lines l.desc.states l.arch.states
