use Rattle.std.proofs.Common.{◌≡◌, ◌++◌, drop, string_bytes}
use Rattle.tie_lines.specs.Lines.{format_lines}
use Rattle.tie_lines.proofs.text.push_formats.Given as goal

abbrev pub invariant-loop-format : goal.invariant-loop-format
invariant-loop-format l = string_bytes l.text ++ format_lines (drop l.format-index l.formats) ≡ string_bytes l.fn.text ++ format_lines l.formats
