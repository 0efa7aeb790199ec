use Rattle.std.proofs.Common.{◌≡◌, map}
use Rattle.std.specs.List.{range_with_len}
use Rattle.net_ref.specs.Workers.{collector_queue}
use Rattle.net_ref.proofs.ports.collector_queues.Given as goal

abbrev pub invariant-loop-k : goal.invariant-loop-k
invariant-loop-k l = l.queues.items ≡ map (collector_queue l.net) (range_with_len 0 l.k)
