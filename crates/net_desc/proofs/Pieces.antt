-- Numbers in bytes, and bytes cut into pieces.
use Rattle.std.proofs.Common.{◌≡◌, ℕ, zero, suc, ◌+◌, ◌-◌, ◌*◌, ◌^◌, ◌<◌, ◌≤◌, List, [], ◌∷◌, ◌++◌, map, take, drop, arith, append_assoc}
use Rattle.std.proofs.lemmas.Grind.{pow_more}
use Rattle.std.proofs.Math.Nat.{pow-le-pow_right, suc-mul}
use Rattle.net_desc.specs.Items.{pieces, number_in}

-- one more byte
pub one_byte : (n b i : ℕ) → n < 256 ^ i → b < 256 → 256 * n + b < 256 ^ (i + 1)
one_byte n b i below byte = let e : 256 ^ (i + 1) ≡ 256 ^ i * 256 = pow_more 256 i in omega (arith, e)

-- at most 16 bytes have 128 bits
pub few_bytes : (n i : ℕ) → n < 256 ^ i → i ≤ 16 → n < 2 ^ 128
few_bytes n i below few = let le : 256 ^ i ≤ 256 ^ 16 = pow-le-pow_right (omega arith) few in omega (arith, le)

-- one more piece
pub pieces-step : (left size : ℕ) (xs rest : List ℕ) → 0 < left
    → (xs ++ number_in (take size rest) ∷ []) ++ map number_in (pieces (left - 1) size (drop size rest)) ≡ xs ++ map number_in (pieces left size rest)
pieces-step zero size xs rest h = absurd (omega (arith, h))
pieces-step (suc m) size xs rest h =
    let less : suc m - 1 ≡ m = omega arith in
    rw less (append_assoc xs (number_in (take size rest) ∷ []) (map number_in (pieces m size (drop size rest))))

-- one piece less
pub room-step : (left size n m : ℕ) → 0 < left → left * size ≤ n → m + size ≡ n → (left - 1) * size ≤ m
room-step zero size n m h le e = absurd (omega (arith, h))
room-step (suc k) size n m h le e =
    let less : suc k - 1 ≡ k = omega arith in
    let more : suc k * size ≡ k * size + size = suc-mul k size in
    rw less (omega (arith, more))

pub room-one : (left size n : ℕ) → 0 < left → left * size ≤ n → size ≤ n
room-one zero size n h le = absurd (omega (arith, h))
room-one (suc k) size n h le = let more : suc k * size ≡ k * size + size = suc-mul k size in omega (arith, more)
