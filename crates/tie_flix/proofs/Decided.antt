-- What tests say, and places in lists.
use Rattle.std.proofs.Common.{◌≡◌, ℕ, suc, zero, ◌+◌, ◌<◌, ◌≤◌, Bool, true, false, cond, List, [], ◌∷◌, length, refl, subst, arith, nat_le, Some}
use Rattle.std.specs.Prelude.{◌==◌, nat_lt, ◌&&◌, not, slice_get}
use Rattle.std.specs.List.{position_or_len}
use Rattle.std.proofs.lemmas.Bool.Decides.{nat_tests}

pub both : (a b : Bool) → (a && b) ≡ true → (a ≡ true) × (b ≡ true)
both true b h = (refl, h)
both false b h = absurd cc

pub lt_of : (a b : ℕ) → nat_lt a b ≡ true → a < b
lt_of a b h = grind (arith, nat_tests)

pub lt_to : (a b : ℕ) → a < b → nat_lt a b ≡ true
lt_to a b h = grind (arith, nat_tests)

pub le_of : (a b : ℕ) → nat_le a b ≡ true → a ≤ b
le_of a b h = grind (arith, nat_tests)

pub eq_of : (a b : ℕ) → (a == b) ≡ true → a ≡ b
eq_of a b h = grind (arith, nat_tests)

pub eq_to : (a b : ℕ) → a ≡ b → (a == b) ≡ true
eq_to a b h = grind (arith, nat_tests)

pub eq_not : (a b : ℕ) → (a ≡ b → ⊥) → (a == b) ≡ false
eq_not a b h = grind (arith, nat_tests)

pub get_within : {A : Type 0} (xs : List A) (k : ℕ) (x : A) → slice_get xs k ≡ Some x → k < length xs
get_within [] k x h = absurd cc
get_within (y ∷ xs) zero x h = omega arith
get_within (y ∷ xs) (suc k) x h = let e = get_within xs k x h in omega (arith, e)

pub get_some : {A : Type 0} (xs : List A) (k : ℕ) → k < length xs → (x : A) × (slice_get xs k ≡ Some x)
get_some [] k h = absurd (omega arith)
get_some (y ∷ xs) zero h = (y, refl)
get_some (y ∷ xs) (suc k) h = get_some xs k (omega arith)

-- what stands at the first place of a test passes it
pub found_passes : {A : Type 0} (p : A → Bool) (xs : List A) (x : A) → slice_get xs (position_or_len p xs) ≡ Some x → p x ≡ true
found_passes p [] x h = absurd cc
found_passes p (y ∷ xs) x h = at (p y) refl h (λ k. found_passes p xs x k)
  where
    at : (b : Bool) → p y ≡ b → slice_get (y ∷ xs) (cond (not b) (1 + position_or_len p xs) 0) ≡ Some x → (slice_get xs (position_or_len p xs) ≡ Some x → p x ≡ true) → p x ≡ true
    at true e k rest = let same : y ≡ x = cc in subst (λ z. p z ≡ true) same e
    at false e k rest = let i : 1 + position_or_len p xs ≡ suc (position_or_len p xs) = omega arith in rest (rw i at k)
