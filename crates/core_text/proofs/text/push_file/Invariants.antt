use Rattle.std.proofs.Common.{◌≡◌, ◌++◌, ◌+◌, ◌/◌, drop, string_bytes}
use Rattle.xt_state.specs.State.{file_at}
use Rattle.core_text.specs.Digits.{digit_count}
use Rattle.core_text.specs.Core.{register_lines}
use Rattle.core_text.proofs.text.push_file.Given as goal

abbrev pub invariant-loop-register : goal.invariant-loop-register
invariant-loop-register l =
    string_bytes l.text ++ register_lines l.file.short (digit_count l.file.width) l.register (drop l.register (file_at l.arch l.number).values)
    ≡ string_bytes l.fn.text ++ register_lines l.file.short (digit_count l.file.width) 0 (file_at l.arch l.number).values
