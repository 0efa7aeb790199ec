use Rattle.std.proofs.Common.{◌≡◌, map}
use Rattle.std.specs.List.{range_with_len}
use Rattle.net_ref.specs.Workers.{source_queue}
use Rattle.net_ref.proofs.ports.source_queues.Given as goal

abbrev pub invariant-loop-s : goal.invariant-loop-s
invariant-loop-s l = l.queues.items ≡ map (source_queue l.net) (range_with_len 0 l.s)
