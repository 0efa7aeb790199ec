use Rattle.std.proofs.Common.{◌≡◌, ℕ, ◌-◌, Bool}
use Rattle.std.specs.Prelude.{slice_get}
use Rattle.net_ref.specs.xt_exec.Queues.{mask}
use Rattle.net_ref.specs.Workers.{capacity_of, output_queue}
use Rattle.tie_report.specs.Standing.{is_full}
use Rattle.tie_report.proofs.Found.{found}
use Rattle.tie_report.proofs.waiting.first_full.Given as goal

abbrev pub invariant-loop-o : goal.invariant-loop-o
invariant-loop-o l =
    (test : ℕ → Bool) → l.pushes ≡ mask test
    → found (λ q. is_full (capacity_of (slice_get l.net.queues.items q)) (slice_get l.end.queues.items q)) (output_queue l.net l.c) test l.o (l.count - l.o)
    ≡ found (λ q. is_full (capacity_of (slice_get l.net.queues.items q)) (slice_get l.end.queues.items q)) (output_queue l.net l.c) test 0 l.count
