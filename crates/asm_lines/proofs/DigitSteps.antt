-- The value of digits, cut at the greatest at each step or at the end.
use Rattle.std.proofs.Common.{◌≡◌, ℕ, suc, ◌+◌, ◌*◌, ◌≤◌, ◌<◌, ◌⊎◌, inl, inr, min, List, [], ◌∷◌, length, drop, get_or, refl, ap, sym, ◌∙◌, arith}
use Rattle.std.specs.Char.{digit_value}
use Rattle.std.specs.Str.Parse.{digits_value_after}
use Rattle.std.proofs.Math.Nat.{mul-le-mul_left}
use Rattle.std.proofs.Math.Seq.{drop-cons}

least_once : (v m : ℕ) → (v ≤ m) ⊎ (m ≤ v) → min (min v m) m ≡ min v m
least_once v m h = omega arith

-- one step more, cut before it or not
cut_step : (v m base d : ℕ) → 1 ≤ base → min (min v m * base + d) m ≡ min (v * base + d) m
cut_step v m base d h = by (compare v m)
  where
    compare : (a b : ℕ) → (a ≤ b) ⊎ (b ≤ a)
    compare a b = grind arith

    by : (v ≤ m) ⊎ (m ≤ v) → min (min v m * base + d) m ≡ min (v * base + d) m
    by (inl k) = let e : min v m ≡ v = omega arith in ap (λ z. min (z * base + d) m) e
    by (inr k) =
        let e : min v m ≡ m = omega arith in
        let p = mul-le-mul_left m h in
        let q = mul-le-mul_left v h in
        ap (λ z. min (z * base + d) m) e ∙ omega (arith, p, q)

pub cut_after : (base m v : ℕ) (ds : List ℕ) → 1 ≤ base → min (digits_value_after base (min v m) ds) m ≡ min (digits_value_after base v ds) m
cut_after base m v [] h = omega arith
cut_after base m v (c ∷ ds) h =
    sym (cut_after base m (min v m * base + digit_value c) ds h)
    ∙ ap (λ z. min (digits_value_after base z ds) m) (cut_step v m base (digit_value c) h)
    ∙ cut_after base m (v * base + digit_value c) ds h

-- the turn of the loop
pub value_step : (base m v : ℕ) (ds : List ℕ) (i b : ℕ) → 1 ≤ base → i < length ds → b ≡ get_or ds i 0
    → min (digits_value_after base (min (v * base + digit_value b) m) (drop (i + 1) ds)) m ≡ min (digits_value_after base v (drop i ds)) m
value_step base m v ds i b h k is =
    cut_after base m (v * base + digit_value b) (drop (i + 1) ds) h
    ∙ ap (λ z. min (digits_value_after base (v * base + digit_value z) (drop (i + 1) ds)) m) is
    ∙ ap (λ n. min (digits_value_after base (v * base + digit_value (get_or ds i 0)) (drop n ds)) m) one
    ∙ sym (ap (λ z. min (digits_value_after base v z) m) (drop-cons ds i 0 k))
  where
    one : i + 1 ≡ suc i
    one = omega arith
