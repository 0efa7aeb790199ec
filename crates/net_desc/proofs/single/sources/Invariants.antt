use Rattle.std.proofs.Common.{◌≡◌, ◌++◌, map, drop}
use Rattle.net_desc.specs.Workers.{source_parts}
use Rattle.net_desc.specs.Alone.{alone_source}
use Rattle.net_desc.proofs.single.sources.Given as goal

abbrev pub invariant-loop-port : goal.invariant-loop-port
invariant-loop-port l = map source_parts l.made.items ++ map alone_source (drop l.port-index l.ports) ≡ map alone_source l.ports
