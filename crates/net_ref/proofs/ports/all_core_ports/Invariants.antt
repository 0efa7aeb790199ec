use Rattle.std.proofs.Common.{◌≡◌, ℕ, Some, slice_get, vec_len}
use Rattle.net_parts.specs.declared.parts.NetCore.{NetCore}
use Rattle.net_ref.specs.declared.ports.CorePorts.{CorePorts}
use Rattle.net_ref.specs.Ports.{AreCorePorts}
use Rattle.net_ref.proofs.ports.all_core_ports.Given as goal

abbrev pub invariant-loop-c : goal.invariant-loop-c
invariant-loop-c l = record {
  len : vec_len l.all ≡ l.c;
  each : (c : ℕ) (core : NetCore) (ports : CorePorts) → slice_get l.net.cores.items c ≡ Some core → slice_get l.all.items c ≡ Some ports → AreCorePorts l.net c core ports;
}
