use Rattle.std.proofs.Common.{◌≡◌, ◌++◌, drop}
use Rattle.net_desc.proofs.workers.collectors_of.Given as goal

abbrev pub invariant-loop-collector : goal.invariant-loop-collector
invariant-loop-collector l = l.made.items ++ drop l.collector-index l.collectors ≡ l.collectors
