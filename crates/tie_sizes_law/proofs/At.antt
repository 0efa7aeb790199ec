-- What holds of each thing of a list, at its number.
use Rattle.std.proofs.Common.{◌≡◌, ℕ, zero, suc, List, [], ◌∷◌, ◌++◌, Bool, true, false, Some, refl, sym, ap, subst, take, append_assoc, append-nil, slice_get, ◌∙◌}
use Rattle.std.specs.List.{flat_map, AllByRecursion, list_any, list_all}
use Rattle.std.proofs.lemmas.Bool.{and_from, or_left, or_right, or_parts}
use Rattle.tie_rules.specs.Least.{behind_from, behind, NoPlace}
use Rattle.tie_sizes_law.proofs.Places.{left, right}

pub same_some : {A : Type 0} (x y : A) → Some x ≡ Some y → x ≡ y
same_some x y e = cc

pub of_each : {A : Type 0} (P : A → Type 0) (xs : List A) (k : ℕ) (x : A) → AllByRecursion P xs → slice_get xs k ≡ Some x → P x
of_each P [] k x h e = absurd cc
of_each P (y ∷ xs) zero x h e = subst P (same_some y x e) h.0
of_each P (y ∷ xs) (suc k) x h e = of_each P xs k x h.1 e

pub to_each : {A : Type 0} (P : A → Type 0) (xs : List A) → ((k : ℕ) (x : A) → slice_get xs k ≡ Some x → P x) → AllByRecursion P xs
to_each P [] h = tt
to_each P (x ∷ xs) h = (h 0 x refl, to_each P xs (λ k y e. h (suc k) y e))

pub places_at : {A : Type 0} (f : A → List ℕ) (xs : List A) (k : ℕ) (x : A) → NoPlace (flat_map f xs) → slice_get xs k ≡ Some x → NoPlace (f x)
places_at f [] k x h e = absurd cc
places_at f (y ∷ xs) zero x h e = subst (λ z. NoPlace (f z)) (same_some y x e) (left (f y) (flat_map f xs) h)
places_at f (y ∷ xs) (suc k) x h e = places_at f xs k x (right (f y) (flat_map f xs) h) e

places_from : {A : Type 0} (f : List A → A → List ℕ) (before xs : List A) (k : ℕ) (x : A) → NoPlace (behind_from f before xs) → slice_get xs k ≡ Some x → NoPlace (f (before ++ take k xs) x)
places_from f before [] k x h e = absurd cc
places_from f before (y ∷ xs) zero x h e =
    subst (λ z. NoPlace (f z x)) (sym (append-nil before))
    (subst (λ z. NoPlace (f before z)) (same_some y x e) (left (f before y) (behind_from f (before ++ y ∷ []) xs) h))
places_from f before (y ∷ xs) (suc k) x h e =
    subst (λ z. NoPlace (f z x)) (append_assoc before (y ∷ []) (take k xs))
    (places_from f (before ++ y ∷ []) xs k x (right (f before y) (behind_from f (before ++ y ∷ []) xs) h) e)

pub behind_at : {A : Type 0} (f : List A → A → List ℕ) (xs : List A) (k : ℕ) (x : A) → NoPlace (behind f xs) → slice_get xs k ≡ Some x → NoPlace (f (take k xs) x)
behind_at f xs k x h e = places_from f [] xs k x h e

pub any_at : {A : Type 0} (test : A → Bool) (xs : List A) (k : ℕ) (x : A) → slice_get xs k ≡ Some x → test x ≡ true → list_any test xs ≡ true
any_at test [] k x e h = absurd cc
any_at test (y ∷ xs) zero x e h = or_left (test y) (list_any test xs) (ap test (same_some y x e) ∙ h)
any_at test (y ∷ xs) (suc k) x e h = or_right (test y) (list_any test xs) (any_at test xs k x e h)

-- none passes the test
pub none_at : {A : Type 0} (test : A → Bool) (xs : List A) (k : ℕ) (x : A) → list_any test xs ≡ false → slice_get xs k ≡ Some x → test x ≡ false
none_at test [] k x h e = absurd cc
none_at test (y ∷ xs) zero x h e = ap test (sym (same_some y x e)) ∙ (or_parts (test y) (list_any test xs) h).0
none_at test (y ∷ xs) (suc k) x h e = none_at test xs k x (or_parts (test y) (list_any test xs) h).1 e

pub all_from : {A : Type 0} (test : A → Bool) (xs : List A) → AllByRecursion (λ x. test x ≡ true) xs → list_all test xs ≡ true
all_from test [] h = refl
all_from test (x ∷ xs) h = and_from (test x) (list_all test xs) h.0 (all_from test xs h.1)
