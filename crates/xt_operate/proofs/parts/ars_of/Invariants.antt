use Rattle.std.proofs.Common.{◌≡◌, ◌<◌, ℕ, length, slice_index}
use Rattle.tie_desc.specs.declared.bundle.Spot.TheVariants as spot
use Rattle.xt_operate.specs.Values.{value_in}
use Rattle.xt_operate.proofs.parts.ars_of.Given as goal

-- the registers so far
abbrev pub invariant-loop-i : goal.invariant-loop-i
invariant-loop-i l = record {
  long : length l.ar ≡ 16;
  same : (n : ℕ) → n < l.i → slice_index l.ar n ≡ value_in l.reads.at (spot.Ar n);
}
