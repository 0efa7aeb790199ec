-- Values that fit a width.
use Rattle.std.proofs.Common.{◌≡◌, ℕ, ◌^◌, ◌≤◌, ◌<◌, Option, Some, None, IsTrue, refl, sym, arith}
use Rattle.std.specs.Option.{unwrap_or, SomeIff}
use Rattle.std.specs.Bool.{nat_lt}
use Rattle.std.proofs.lemmas.Bool.Decides.{nat_tests}
use Rattle.std.proofs.Math.Nat.{pow-le-pow_right}

pub fits_below : (v w : ℕ) → IsTrue (nat_lt v (2 ^ w)) → v < 2 ^ w
fits_below v w h = grind (arith, nat_tests)

pub fits_value : (v w : ℕ) (o : Option ℕ) → w ≤ 128 → IsTrue (nat_lt v (2 ^ w)) → SomeIff o (v < 2 ^ 128) v → v ≡ unwrap_or o 0
fits_value v w None small fits so =
    let powers : 2 ^ w ≤ 2 ^ 128 = pow-le-pow_right {n = 2} (omega arith) {i = w} {j = 128} small in
    let below = fits_below v w fits in
    absurd (so (omega (arith, powers, below)))
fits_value v w (Some x) small fits so = sym so.1
