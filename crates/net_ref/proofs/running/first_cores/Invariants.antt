use Rattle.std.proofs.Common.{◌≡◌, ℕ, Some, slice_get, vec_len}
use Rattle.net_parts.specs.declared.parts.NetCore.{NetCore}
use Rattle.net_parts.specs.declared.ends.CoreEnd.{CoreEnd}
use Rattle.net_ref.specs.First.{IsFirstCore}
use Rattle.net_ref.proofs.running.first_cores.Given as goal

abbrev pub invariant-loop-core : goal.invariant-loop-core
invariant-loop-core l = record {
  len : vec_len l.all ≡ l.core-index;
  each : (c : ℕ) (here : NetCore) (x : CoreEnd) → slice_get l.cores c ≡ Some here → slice_get l.all.items c ≡ Some x → IsFirstCore here x;
}
