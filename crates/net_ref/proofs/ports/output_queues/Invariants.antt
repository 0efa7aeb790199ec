use Rattle.std.proofs.Common.{◌≡◌, map}
use Rattle.std.specs.List.{range_with_len}
use Rattle.net_ref.specs.Workers.{output_queue}
use Rattle.net_ref.proofs.ports.output_queues.Given as goal

abbrev pub invariant-loop-o : goal.invariant-loop-o
invariant-loop-o l = l.queues.items ≡ map (output_queue l.net l.c) (range_with_len 0 l.o)
