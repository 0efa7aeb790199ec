-- Numbers that fit a width.
use Rattle.std.proofs.Common.{◌≡◌, ℕ, ◌-◌, ◌/◌, ◌^◌, ◌≤◌, ◌<◌, false, nat_lt, nat_le, ap, ◌∙◌, arith}
use Rattle.std.proofs.lemmas.Bool.Decides.{nat_tests}
use Rattle.std.proofs.lemmas.Nat.{pow_pos}
use Rattle.std.proofs.lemmas.Nat.Bits.{ones_shr}
use Rattle.std.proofs.Math.Nat.{pow-le-pow_right}

below_suc : (v p : ℕ) → 0 < p → nat_le v (p - 1) ≡ nat_lt v p
below_suc v p h = grind (arith, nat_tests)

pub within_mask : (v w : ℕ) → w ≤ 128 → nat_le v ((2 ^ 128 - 1) / 2 ^ (128 - w)) ≡ nat_lt v (2 ^ w)
within_mask v w h =
    let back : 128 - (128 - w) ≡ w = omega arith in
    let mask : (2 ^ 128 - 1) / 2 ^ (128 - w) ≡ 2 ^ w - 1 = ones_shr 128 (128 - w) (omega arith) ∙ ap (λ k. 2 ^ k - 1) back in
    ap (λ m. nat_le v m) mask ∙ below_suc v (2 ^ w) (pow_pos w)

pub beyond : (v w : ℕ) → w ≤ 128 → (v < 2 ^ 128 → ⊥) → false ≡ nat_lt v (2 ^ w)
beyond v w h too_great =
    let powers : 2 ^ w ≤ 2 ^ 128 = pow-le-pow_right {n = 2} (omega arith) {i = w} {j = 128} h in
    let above : 2 ^ w ≤ v = omega arith in
    grind (arith, nat_tests)
