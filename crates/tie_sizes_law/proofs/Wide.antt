-- Widths of 1 to 128, and the numbers that tests of rules are on.
use Rattle.std.proofs.Common.{◌≡◌, ℕ, ◌<◌, ◌≤◌, true, false, nat_lt, nat_le, arith, min}
use Rattle.std.proofs.lemmas.Bool.{and_parts, and_from, ltb-true, leb-true, leb-false, lt-ltb, le-leb}
use Rattle.tie_mean.specs.Literals.{is_width}
use Rattle.tie_mean.specs.Sizes.{limited}

pub is_wide : (n : ℕ) → 1 ≤ n → n ≤ 128 → is_width n ≡ true
is_wide n low high = and_from (nat_lt 0 n) (nat_le n 128) (lt-ltb 0 n (omega arith)) (le-leb n 128 high)

pub at_least : (n : ℕ) → is_width n ≡ true → 1 ≤ n
at_least n h = let low : 0 < n = ltb-true 0 n (and_parts (nat_lt 0 n) (nat_le n 128) h).0 in omega arith

pub at_most : (n : ℕ) → is_width n ≡ true → n ≤ 128
at_most n h = leb-true n 128 (and_parts (nat_lt 0 n) (nat_le n 128) h).1

pub below_limited : (n k : ℕ) → nat_le (limited n) k ≡ false → k < n
below_limited n k h = let lt : k < min n 4294967296 = leb-false (limited n) k h in omega arith
