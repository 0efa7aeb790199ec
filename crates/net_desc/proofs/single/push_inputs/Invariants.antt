use Rattle.std.proofs.Common.{◌≡◌, ◌++◌, drop}
use Rattle.net_desc.specs.Alone.{alone_inputs}
use Rattle.net_desc.proofs.single.push_inputs.Given as goal

abbrev pub invariant-loop-i : goal.invariant-loop-i
invariant-loop-i l = l.queues.items ++ alone_inputs l.i (drop l.i l.ports) ≡ l.initial.queues.items ++ alone_inputs 0 l.ports
