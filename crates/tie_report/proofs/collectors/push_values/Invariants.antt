use Rattle.std.proofs.Common.{◌≡◌, ◌++◌, drop, string_bytes}
use Rattle.tie_report.specs.Report.{value_lines}
use Rattle.tie_report.proofs.collectors.push_values.Given as goal

abbrev pub invariant-loop-value : goal.invariant-loop-value
invariant-loop-value l = string_bytes l.text ++ value_lines l.count (drop l.value-index l.values) ≡ string_bytes l.fn.text ++ value_lines l.count l.values
