-- Sizes up to the limit.
use Rattle.std.proofs.Common.{◌≡◌, ℕ, zero, suc, ◌+◌, ◌-◌, ◌*◌, ◌≤◌, ◌^◌, inl, inr, min, max, ap, ◌∙◌, arith}
use Rattle.std.proofs.lemmas.Bool.{cases_lt}
use Rattle.tie_mean.specs.Sizes.{limited}

pub limited_sum : (a b : ℕ) → limited (limited a + limited b) ≡ limited (a + b)
limited_sum a b = omega arith

pub limited_max : (a b : ℕ) → max (limited a) (limited b) ≡ limited (max a b)
limited_max a b = omega arith

at_least : (c s : ℕ) → 4294967296 ≤ s → 4294967296 ≤ suc c * s
at_least c s h = grind arith

-- the right factor may be cut to the limit
pub limited_repeat : (c s : ℕ) → limited (c * limited s) ≡ limited (c * s)
limited_repeat zero s = search arith
limited_repeat (suc c) s = elim (cases_lt s 4294967296) [
  | inl below ↦ let e : limited s ≡ s = omega arith in ap (λ m. limited (suc c * m)) e
  | inr above ↦ let a = at_least c s above in let b = at_least c (limited s) (omega arith) in omega (arith, a, b)
]

swapped : (a b : ℕ) → a * b ≡ b * a
swapped a b = grind arith

pub limited_product : (c s : ℕ) → limited (min (limited c * s) (2 ^ 64 - 1)) ≡ limited (c * s)
limited_product c s =
    let cut : limited (limited c * s) ≡ limited (c * s) = ap limited (swapped (limited c) s) ∙ limited_repeat s c ∙ ap limited (swapped s c) in
    omega (arith, cut)

pub ruleset limits = (limited_sum, limited_max, limited_repeat)
