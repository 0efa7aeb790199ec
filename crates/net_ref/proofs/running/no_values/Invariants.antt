use Rattle.std.proofs.Common.{◌≡◌, ℕ, [], Some, Vec, Global, slice_get, vec_len}
use Rattle.net_ref.proofs.running.no_values.Given as goal

abbrev pub invariant-loop : goal.invariant-loop
invariant-loop l = record {
  len : vec_len l.all ≡ l.counter;
  each : (k : ℕ) (x : Vec ℕ Global) → slice_get l.all.items k ≡ Some x → x.items ≡ [];
}
