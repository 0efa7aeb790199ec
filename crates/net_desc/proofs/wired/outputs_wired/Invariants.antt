use Rattle.std.proofs.Common.{◌≡◌, drop}
use Rattle.net_desc.specs.Wiring.{each_number, output_wired}
use Rattle.net_desc.proofs.wired.outputs_wired.Given as goal

abbrev pub invariant-loop-o : goal.invariant-loop-o
invariant-loop-o l = each_number (output_wired l.queues l.core) l.o (drop l.o l.ports) ≡ each_number (output_wired l.queues l.core) 0 l.ports
