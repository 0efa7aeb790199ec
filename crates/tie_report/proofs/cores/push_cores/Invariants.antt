use Rattle.std.proofs.Common.{◌≡◌, ◌++◌, drop, string_bytes}
use Rattle.tie_report.specs.Report.{cores_text}
use Rattle.tie_report.proofs.cores.push_cores.Given as goal

abbrev pub invariant-loop-c : goal.invariant-loop-c
invariant-loop-c l =
    string_bytes l.text ++ cores_text l.net l.end l.stepped l.c (drop l.c l.net.cores.items) (drop l.c l.end.cores.items)
    ≡ string_bytes l.fn.text ++ cores_text l.net l.end l.stepped 0 l.net.cores.items l.end.cores.items
