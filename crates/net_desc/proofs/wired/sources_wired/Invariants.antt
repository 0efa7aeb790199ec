use Rattle.std.proofs.Common.{◌≡◌, drop}
use Rattle.net_desc.specs.Wiring.{each_number, source_wired}
use Rattle.net_desc.proofs.wired.sources_wired.Given as goal

abbrev pub invariant-loop-s : goal.invariant-loop-s
invariant-loop-s l = each_number (source_wired l.queues) l.s (drop l.s l.sources) ≡ each_number (source_wired l.queues) 0 l.sources
