use Rattle.std.proofs.Common.{◌≡◌, ◌++◌, drop}
use Rattle.net_desc.specs.Alone.{alone_outputs}
use Rattle.net_desc.proofs.single.push_outputs.Given as goal

abbrev pub invariant-loop-o : goal.invariant-loop-o
invariant-loop-o l = l.queues.items ++ alone_outputs l.o (drop l.o l.ports) ≡ l.initial.queues.items ++ alone_outputs 0 l.ports
