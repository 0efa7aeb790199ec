use Rattle.std.proofs.Common.{◌≡◌, drop}
use Rattle.net_desc.specs.Wiring.{each_number, input_wired}
use Rattle.net_desc.proofs.wired.inputs_wired.Given as goal

abbrev pub invariant-loop-i : goal.invariant-loop-i
invariant-loop-i l = each_number (input_wired l.queues l.core) l.i (drop l.i l.ports) ≡ each_number (input_wired l.queues l.core) 0 l.ports
