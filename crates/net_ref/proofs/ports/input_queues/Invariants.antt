use Rattle.std.proofs.Common.{◌≡◌, map}
use Rattle.std.specs.List.{range_with_len}
use Rattle.net_ref.specs.Workers.{input_queue}
use Rattle.net_ref.proofs.ports.input_queues.Given as goal

abbrev pub invariant-loop-i : goal.invariant-loop-i
invariant-loop-i l = l.queues.items ≡ map (input_queue l.net l.c) (range_with_len 0 l.i)
