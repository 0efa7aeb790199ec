-- Codes and the constants of branches are one to one.
use Rattle.std.proofs.Common.{◌≡◌, ℕ, ◌+◌, ◌<◌, ℤ, pos, Bool, true, false, cond, eqb, List, [], ◌∷◌, length, get_or, zero, suc, ◌⊎◌, ⊎_elim, refl, subst, sym, add-one, arith}
use Rattle.std.proofs.lemmas.Bool.Decides.{Decides-int_eq}
use Rattle.std.specs.Ordering.{int_eq}
use Rattle.xt_isa.specs.Constants.{constant_at, constant_code, constants, place_of, unsigned_at, unsigned_code, unsigned_constants}

-- a test of every number below n
abbrev pub each_below : ℕ → (ℕ → Bool) → Bool
each_below zero test = true
each_below (suc n) test = cond (test n) (each_below n test) false

both_true : (b other : Bool) → cond b other false ≡ true → (b ≡ true) × (other ≡ true)
both_true true other h = (refl, h)
both_true false other h = absurd cc

equal_from : (a b : ℕ) → eqb a b ≡ true → a ≡ b
equal_from a b h = grind arith

pub each_below_at : (n : ℕ) (test : ℕ → Bool) → each_below n test ≡ true → (k : ℕ) → k < n → test k ≡ true
each_below_at zero test h k less = absurd (omega arith)
each_below_at (suc n) test h k less =
    let parts = both_true (test n) (each_below n test) h in
    ⊎_elim (λ below. each_below_at n test parts.1 k below) (λ same. subst (λ m. test m ≡ true) (sym same) parts.0) (last k n less)
  where
    last : (k n : ℕ) → k < suc n → (k < n) ⊎ (k ≡ n)
    last k n h = grind arith

-- each constant stands at its own place first
abbrev is_at_place : List ℤ → ℕ → Bool
is_at_place list code = eqb (place_of (get_or list code (pos 0)) list) code

place_of-get : (list : List ℤ) → each_below 16 (is_at_place list) ≡ true → (code : ℕ) → code < 16 → place_of (get_or list code (pos 0)) list ≡ code
place_of-get list all code small = equal_from _ code (each_below_at 16 (is_at_place list) all code small)

-- what has a place stands there
get-place_of : (value : ℤ) (list : List ℤ) → place_of value list < length list → get_or list (place_of value list) (pos 0) ≡ value
get-place_of value [] h = absurd (omega arith)
get-place_of value (first ∷ rest) h = at (int_eq value first) refl h (λ k. get-place_of value rest k)
  where
    at : (b : Bool) → int_eq value first ≡ b → (cond b 0 (place_of value rest + 1)) < length (first ∷ rest) → (place_of value rest < length rest → get_or rest (place_of value rest) (pos 0) ≡ value) → get_or (first ∷ rest) (cond b 0 (place_of value rest + 1)) (pos 0) ≡ value
    at true e k later = sym ((Decides-int_eq value first).0 e)
    at false e k later = rw add-one (later (grind arith))

pub constant_code-at : (code : ℕ) → code < 16 → constant_code (constant_at code) ≡ code
unfolding constant_code constant_at
constant_code-at code small = place_of-get constants refl code small

pub constant_at-code : (value : ℤ) → constant_code value < 16 → constant_at (constant_code value) ≡ value
unfolding constant_code constant_at
constant_at-code value h = get-place_of value constants h

pub unsigned_code-at : (code : ℕ) → code < 16 → unsigned_code (unsigned_at code) ≡ code
unfolding unsigned_code unsigned_at
unsigned_code-at code small = place_of-get unsigned_constants refl code small

pub unsigned_at-code : (value : ℤ) → unsigned_code value < 16 → unsigned_at (unsigned_code value) ≡ value
unfolding unsigned_code unsigned_at
unsigned_at-code value h = get-place_of value unsigned_constants h

-- the constant of a code is one
pub constant_code_small : (code : ℕ) → code < 16 → constant_code (constant_at code) < 16
constant_code_small code small = rw (constant_code-at code small) small

pub unsigned_code_small : (code : ℕ) → code < 16 → unsigned_code (unsigned_at code) < 16
unsigned_code_small code small = rw (unsigned_code-at code small) small
