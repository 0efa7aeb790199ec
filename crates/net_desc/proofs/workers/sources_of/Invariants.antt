use Rattle.std.proofs.Common.{◌≡◌, ◌++◌, map, drop}
use Rattle.net_desc.specs.Workers.{source_parts, itemless}
use Rattle.net_desc.proofs.workers.sources_of.Given as goal

abbrev pub invariant-loop-source : goal.invariant-loop-source
invariant-loop-source l = map source_parts l.made.items ++ map itemless (drop l.source-index l.sources) ≡ map itemless l.sources
