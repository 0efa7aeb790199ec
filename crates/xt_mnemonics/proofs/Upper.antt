-- A name in upper case, byte by byte.
use Rattle.std.proofs.Common.{◌≡◌, ℕ, List, [], ◌∷◌, Bool, true, false, ◌&&◌, refl, ap, ◌∙◌, arith, suc, ◌+◌, ◌<◌, drop, map, length, get_or, nat_eq}
use Rattle.std.specs.Char.{to_ascii_uppercase}
use Rattle.std.specs.Str.{bytes_eq}
use Rattle.std.proofs.lemmas.Bool.Decides.{nat_tests}
use Rattle.std.proofs.lemmas.Grind.{common_steps}

pub lengths_differ : (xs ys : List ℕ) → (length xs ≡ length ys → ⊥) → bytes_eq xs ys ≡ false
lengths_differ [] [] h = absurd (h refl)
lengths_differ [] (y ∷ ys) h = refl
lengths_differ (x ∷ xs) [] h = refl
lengths_differ (x ∷ xs) (y ∷ ys) h = by_first (nat_eq x y) (lengths_differ xs ys (λ e. h (ap suc e)))
  where
    by_first : (b : Bool) → bytes_eq xs ys ≡ false → (b && bytes_eq xs ys) ≡ false
    by_first true again = again
    by_first false again = refl

next_at : (xs : List ℕ) (i : ℕ) → i < length xs → drop i xs ≡ get_or xs i 0 ∷ drop (i + 1) xs
next_at xs i h = grind (arith, common_steps)

differs : (a b : ℕ) → (a ≡ b → ⊥) → nat_eq a b ≡ false
differs a b h = grind (arith, nat_tests)

pub upper_next : (name word : List ℕ) (i : ℕ) → i < length name → length name ≡ length word
    → bytes_eq (map to_ascii_uppercase (drop i name)) (drop i word) ≡ (nat_eq (to_ascii_uppercase (get_or name i 0)) (get_or word i 0) && bytes_eq (map to_ascii_uppercase (drop (i + 1) name)) (drop (i + 1) word))
upper_next name word i h e =
    ap (λ (xs : List ℕ). bytes_eq (map to_ascii_uppercase xs) (drop i word)) (next_at name i h)
    ∙ ap (λ (ys : List ℕ). bytes_eq (to_ascii_uppercase (get_or name i 0) ∷ map to_ascii_uppercase (drop (i + 1) name)) ys) (next_at word i (omega arith))

-- a byte differs
pub upper_differs : (name word : List ℕ) (i : ℕ) → i < length name → length name ≡ length word → (to_ascii_uppercase (get_or name i 0) ≡ get_or word i 0 → ⊥)
    → bytes_eq (map to_ascii_uppercase (drop i name)) (drop i word) ≡ false
upper_differs name word i h e ne =
    upper_next name word i h e
    ∙ ap (λ b. b && bytes_eq (map to_ascii_uppercase (drop (i + 1) name)) (drop (i + 1) word)) (differs (to_ascii_uppercase (get_or name i 0)) (get_or word i 0) ne)
