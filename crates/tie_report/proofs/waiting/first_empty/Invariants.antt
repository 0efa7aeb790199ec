use Rattle.std.proofs.Common.{◌≡◌, ℕ, ◌-◌, Bool}
use Rattle.std.specs.Prelude.{slice_get}
use Rattle.net_ref.specs.xt_exec.Queues.{mask}
use Rattle.net_ref.specs.Workers.{input_queue}
use Rattle.tie_report.specs.Standing.{is_empty}
use Rattle.tie_report.proofs.Found.{found}
use Rattle.tie_report.proofs.waiting.first_empty.Given as goal

abbrev pub invariant-loop-i : goal.invariant-loop-i
invariant-loop-i l =
    (test : ℕ → Bool) → l.pops ≡ mask test
    → found (λ q. is_empty (slice_get l.end.queues.items q)) (input_queue l.net l.c) test l.i (l.count - l.i)
    ≡ found (λ q. is_empty (slice_get l.end.queues.items q)) (input_queue l.net l.c) test 0 l.count
