use Rattle.std.proofs.Common.{◌≡◌, drop}
use Rattle.net_desc.specs.Wiring.{each_number, core_wired}
use Rattle.net_desc.proofs.wired.cores_wired.Given as goal

abbrev pub invariant-loop-c : goal.invariant-loop-c
invariant-loop-c l = each_number (core_wired l.queues) l.c (drop l.c l.cores) ≡ each_number (core_wired l.queues) 0 l.cores
