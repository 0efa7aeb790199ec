use Rattle.std.proofs.Common.{◌≡◌, ◌++◌, map, drop}
use Rattle.net_desc.specs.Alone.{alone_collector}
use Rattle.net_desc.proofs.single.collectors.Given as goal

abbrev pub invariant-loop-port : goal.invariant-loop-port
invariant-loop-port l = l.made.items ++ map alone_collector (drop l.port-index l.ports) ≡ map alone_collector l.ports
