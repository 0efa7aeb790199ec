use Rattle.std.proofs.Common.{◌<◌, ℕ}
use Rattle.xt_exec.specs.Queues.{Lacks}
use Rattle.xt_exec.proofs.queues.first_lacking.Given as goal

-- no queue so far is lacking
abbrev pub invariant-loop-queue : goal.invariant-loop-queue
invariant-loop-queue l = (r : ℕ) → r < l.queue → Lacks l.desc l.bundle l.heads r → ⊥
