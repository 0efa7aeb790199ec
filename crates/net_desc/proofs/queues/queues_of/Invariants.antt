use Rattle.std.proofs.Common.{◌≡◌, [], drop}
use Rattle.net_toml.specs.Walk.{each}
use Rattle.net_desc.specs.Wiring.{queue_of}
use Rattle.net_desc.proofs.queues.queues_of.Given as goal

abbrev pub invariant-loop-queue : goal.invariant-loop-queue
invariant-loop-queue l =
    each (queue_of l.cores l.plan) l.queues.items (drop l.queue-index l.plan.queues) ≡ each (queue_of l.cores l.plan) [] l.plan.queues
