use Rattle.std.proofs.Common.{◌≡◌, drop}
use Rattle.net_desc.specs.Wiring.{each_number, collector_wired}
use Rattle.net_desc.proofs.wired.collectors_wired.Given as goal

abbrev pub invariant-loop-k : goal.invariant-loop-k
invariant-loop-k l = each_number (collector_wired l.queues) l.k (drop l.k l.collectors) ≡ each_number (collector_wired l.queues) 0 l.collectors
