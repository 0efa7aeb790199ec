-- Chosen ports, and searches.
use Rattle.std.proofs.Common.{◌≡◌, ℕ, zero, suc, ◌+◌, ◌<◌, Bool, true, false, cond, List, [], ◌∷◌, Some, refl, ap, ◌∙◌, arith}
use Rattle.std.specs.Prelude.{filter, find, slice_get}
use Rattle.std.specs.List.{range_with_len}

-- each chosen number is one of those that there were to choose from
pub chosen_below : (test : ℕ → Bool) (n i j k : ℕ) → slice_get (filter test (range_with_len i n)) j ≡ Some k → k < i + n
chosen_below test zero i j k at = cc
chosen_below test (suc n) i j k at = one (test i) j (λ m there. chosen_below test n (i + 1) m k there) at
  where
    one : (b : Bool) (j : ℕ) → ((m : ℕ) → slice_get (filter test (range_with_len (i + 1) n)) m ≡ Some k → k < i + 1 + n)
        → slice_get (cond b (i ∷ filter test (range_with_len (i + 1) n)) (filter test (range_with_len (i + 1) n))) j ≡ Some k → k < i + suc n
    one true zero rest at = let same : i ≡ k = cc in omega arith
    one true (suc j) rest at = let h = rest j at in omega arith
    one false j rest at = let h = rest j at in omega arith

-- a search among items of which one passes finds one
pub found : {X : Type 0} (test : X → Bool) (xs : List X) (j : ℕ) (x : X) → slice_get xs j ≡ Some x → test x ≡ true → (y : X) × (find test xs ≡ Some y)
found test [] j x at is = cc
found {X} test (z ∷ zs) zero x at is =
    let same : z ≡ x = cc in
    let passes : test z ≡ true = ap test same ∙ is in
    (z, ap (λ (b : Bool). cond b (Some z) (find test zs)) passes)
found {X} test (z ∷ zs) (suc j) x at is = one (test z) (found test zs j x at is)
  where
    one : (b : Bool) → ((y : X) × (find test zs ≡ Some y)) → (y : X) × (cond b (Some z) (find test zs) ≡ Some y)
    one true h = (z, refl)
    one false h = h
