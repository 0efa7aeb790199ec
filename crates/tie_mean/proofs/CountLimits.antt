-- Counts up to the limit.
use Rattle.std.proofs.Common.{◌≡◌, ℕ, zero, suc, ◌+◌, ◌*◌, ◌≤◌, ◌<◌, inl, inr, List, map, drop, length, get_or, ap, ◌∙◌, arith}
use Rattle.std.proofs.lemmas.List.{drop_more}
use Rattle.std.proofs.lemmas.Bool.{cases_lt}
use Rattle.tie_mean.specs.Counts.{limited, weighted}

pub limited_more : (a b : ℕ) → limited (a + limited b) ≡ limited (a + b)
limited_more a b = omega arith

pub limited_sum : (a b : ℕ) → limited (limited a + limited b) ≡ limited (a + b)
limited_sum a b = omega arith

at_least : (c s : ℕ) → 5000 ≤ s → 5000 ≤ suc c * s
at_least c s h = grind arith

times_limited : (c s : ℕ) → limited (c * limited s) ≡ limited (c * s)
times_limited zero s = search arith
times_limited (suc c) s = elim (cases_lt s 5000) [
  | inl below ↦ let e : limited s ≡ s = omega arith in ap (λ m. limited (suc c * m)) e
  | inr above ↦ let a = at_least c s above in let b = at_least c (limited s) (omega arith) in omega (arith, a, b)
]

swapped : (a b : ℕ) → a * b ≡ b * a
swapped a b = grind arith

pub limited_product : (c s : ℕ) → limited (limited c * limited s) ≡ limited (c * s)
limited_product c s =
    times_limited (limited c) s ∙ ap limited (swapped (limited c) s) ∙ times_limited s c ∙ ap limited (swapped s c)

pub ruleset count_limits = (limited_more, limited_sum)

-- one argument more
pub one_argument : (total r t n w : ℕ) → r ≡ limited (total + limited t * limited n) → limited (r + w) ≡ limited (total + (t * n + w))
one_argument total r t n w is =
    let e = limited_product t n in
    omega (arith, is, e)

pub weighted_more : {X : Type 0} (times : ℕ → ℕ) (f : X → ℕ) (xs : List X) (i : ℕ) (d : X) → i < length xs
    → weighted times i (map f (drop i xs)) ≡ times i * f (get_or xs i d) + weighted times (i + 1) (map f (drop (i + 1) xs))
weighted_more times f xs i d h = ap (λ ys. weighted times i (map f ys)) (drop_more xs i d h)
