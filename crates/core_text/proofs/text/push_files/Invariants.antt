use Rattle.std.proofs.Common.{◌≡◌, ◌++◌, drop, string_bytes}
use Rattle.core_text.specs.Core.{file_lines}
use Rattle.core_text.proofs.text.push_files.Given as goal

abbrev pub invariant-loop-number : goal.invariant-loop-number
invariant-loop-number l = string_bytes l.text ++ file_lines (drop l.number l.desc.files) (drop l.number l.arch.files) ≡ string_bytes l.fn.text ++ file_lines l.desc.files l.arch.files
