use Rattle.std.proofs.Common.{◌≡◌, ◌++◌, drop, string_bytes}
use Rattle.tie_report.specs.Report.{queue_lines}
use Rattle.tie_report.proofs.queues.push_queues.Given as goal

abbrev pub invariant-loop-q : goal.invariant-loop-q
invariant-loop-q l = string_bytes l.text ++ queue_lines l.stepped (drop l.q l.queues) (drop l.q l.ends) ≡ string_bytes l.fn.text ++ queue_lines l.stepped l.queues l.ends
