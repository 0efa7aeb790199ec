-- Facts on lists, and on chosen numbers.
use Rattle.std.proofs.Common.{◌≡◌, ℕ, zero, suc, ◌+◌, ◌<◌, Bool, true, false, List, [], ◌∷◌, ◌++◌, length, map, count_by, Some, refl, sym, ap, ◌∙◌, subst, arith, append_assoc}
use Rattle.std.specs.Prelude.{slice_get, slice_set, if◌then◌else◌, ◌&&◌}
use Rattle.std.specs.List.{filter, flat_map, list_all, position_or_len, range_with_len}
use Rattle.std.proofs.lemmas.List.Elements.{filter-append}
use Rattle.std.proofs.lemmas.List.Sums.{passes_at_first}
use Rattle.std.proofs.lemmas.Option.{get_or_from_slice_get}
use Rattle.kahn_law.proofs.Lists.{item_at}
use Rattle.net_ref.specs.Processor.{chosen}

pub some_same : {X : Type 0} (x y : X) → Some x ≡ Some y → x ≡ y
some_same x y e = cc

pub back_nothing : {X : Type 0} (xs : List X) → xs ++ [] ≡ xs
back_nothing [] = refl
back_nothing (x ∷ xs) = ap (λ ys. x ∷ ys) (back_nothing xs)

pub map_joined : {X Y : Type 0} (f : X → Y) (xs ys : List X) → map f (xs ++ ys) ≡ map f xs ++ map f ys
map_joined f [] ys = refl
map_joined f (x ∷ xs) ys = ap (λ zs. f x ∷ zs) (map_joined f xs ys)

pub all_joined : {X : Type 0} (p : X → Bool) (xs ys : List X) → list_all p (xs ++ ys) ≡ (list_all p xs && list_all p ys)
all_joined p [] ys = refl
all_joined p (x ∷ xs) ys = one (p x) (all_joined p xs ys)
  where
    one : (b : Bool) → list_all p (xs ++ ys) ≡ (list_all p xs && list_all p ys) → (b && list_all p (xs ++ ys)) ≡ ((b && list_all p xs) && list_all p ys)
    one true h = h
    one false h = refl

pub flat_joined : {X Y : Type 0} (f : X → List Y) (xs ys : List X) → flat_map f (xs ++ ys) ≡ flat_map f xs ++ flat_map f ys
flat_joined f [] ys = refl
flat_joined f (x ∷ xs) ys = ap (λ zs. f x ++ zs) (flat_joined f xs ys) ∙ sym (append_assoc (f x) (flat_map f xs) (flat_map f ys))

-- a list after a write, at the place of the write and elsewhere
pub get_set_same : {X : Type 0} (xs : List X) (i : ℕ) (x : X) → i < length xs → slice_get (slice_set xs i x) i ≡ Some x
get_set_same [] i x lt = absurd (omega arith)
get_set_same (y ∷ ys) zero x lt = refl
get_set_same (y ∷ ys) (suc i) x lt = get_set_same ys i x (omega arith)

pub get_set_other : {X : Type 0} (xs : List X) (i j : ℕ) (x : X) → (j ≡ i → ⊥) → slice_get (slice_set xs i x) j ≡ slice_get xs j
get_set_other [] i j x ne = refl
get_set_other (y ∷ ys) zero zero x ne = absurd (ne refl)
get_set_other (y ∷ ys) zero (suc j) x ne = refl
get_set_other (y ∷ ys) (suc i) zero x ne = refl
get_set_other (y ∷ ys) (suc i) (suc j) x ne = get_set_other ys i j x (λ e. ne (omega arith))

-- ---- chosen numbers

pub range_more : (i n : ℕ) → range_with_len i (n + 1) ≡ range_with_len i n ++ (i + n) ∷ []
range_more i n = let e : n + 1 ≡ suc n = omega arith in ap (range_with_len i) e ∙ by_count n i
  where
    by_count : (k a : ℕ) → range_with_len a (suc k) ≡ range_with_len a k ++ (a + k) ∷ []
    by_count zero a = let e : a ≡ a + 0 = omega arith in ap (λ (b : ℕ). b ∷ []) e
    by_count (suc k) a = let e : (a + 1) + k ≡ a + suc k = omega arith in ap (λ (xs : List ℕ). a ∷ xs) (by_count k (a + 1) ∙ ap (λ (b : ℕ). range_with_len (a + 1) k ++ b ∷ []) e)

pub chosen_more : (test : ℕ → Bool) (n : ℕ) → chosen test (n + 1) ≡ chosen test n ++ (if test n then n ∷ [] else [])
chosen_more test n =
    let e : 0 + n ≡ n = omega arith in
    ap (filter test) (range_more 0 n ∙ ap (λ (b : ℕ). range_with_len 0 n ++ b ∷ []) e) ∙ filter-append test (range_with_len 0 n) (n ∷ [])

-- ---- the first place that passes

pub has_place : {X : Type 0} (p : X → Bool) (xs : List X) → count_by p xs ≡ 1 → position_or_len p xs < length xs
has_place p [] e = absurd (omega arith)
has_place p (x ∷ xs) e = one (p x) refl (λ rest. has_place p xs rest)
  where
    one : (b : Bool) → p x ≡ b → (count_by p xs ≡ 1 → position_or_len p xs < length xs) → position_or_len p (x ∷ xs) < length (x ∷ xs)
    one true is h = rw is (omega arith)
    one false is h = let rest : count_by p xs ≡ 1 = rw is at e in let lt = h rest in rw is (omega arith)

pub at_place : {X : Type 0} (p : X → Bool) (xs : List X) → position_or_len p xs < length xs → (x : X) × (slice_get xs (position_or_len p xs) ≡ Some x) × (p x ≡ true)
at_place {X} p xs lt =
    let h = item_at xs (position_or_len p xs) lt in
    (h.0, h.1, subst (λ (y : X). p y ≡ true) (get_or_from_slice_get xs (position_or_len p xs) h.0 h.0 h.1) (passes_at_first p xs h.0 lt))
