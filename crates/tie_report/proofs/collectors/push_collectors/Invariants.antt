use Rattle.std.proofs.Common.{◌≡◌, ◌++◌, drop, string_bytes}
use Rattle.tie_report.specs.Report.{collectors_text}
use Rattle.tie_report.proofs.collectors.push_collectors.Given as goal

abbrev pub invariant-loop-k : goal.invariant-loop-k
invariant-loop-k l =
    string_bytes l.text ++ collectors_text l.net l.k (drop l.k l.net.collectors.items) (drop l.k l.end.collected.items)
    ≡ string_bytes l.fn.text ++ collectors_text l.net 0 l.net.collectors.items l.end.collected.items
