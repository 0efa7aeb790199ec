-- Facts on lists and tests.
use Rattle.std.proofs.Common.{◌≡◌, ℕ, zero, suc, ◌+◌, ◌<◌, List, [], ◌∷◌, length, Some, None, slice_get, arith, refl, sym, subst, ap, ◌∙◌, All, Bool, true, false, not, ◌&&◌, ◌||◌, cond, ◌++◌, map, ltb}
use Rattle.std.specs.List.{list_any, position, position_or_len}
use Rattle.std.proofs.lemmas.Bool.{lt-ltb}
use Rattle.std.proofs.lemmas.Option.{get_or_from_slice_get, slice_get_within}
use Rattle.tie_desc.specs.Names.{all_differ}

-- both sides of a test that passes
pub both_left : (a b : Bool) → (a && b) ≡ true → a ≡ true
both_left true b h = refl
both_left false b h = h

pub both_right : (a b : Bool) → (a && b) ≡ true → b ≡ true
both_right true b h = h
both_right false b h = cc

-- what holds of all holds of the element at a place
pub All-slice_get : {A : Type 0} (P : A → Type 0) (xs : List A) (k : ℕ) (x : A) → All P xs → slice_get xs k ≡ Some x → P x
All-slice_get P xs k x all here =
    subst P (get_or_from_slice_get xs k x x here) (all k x (slice_get_within xs k x here))

pub All-tail : {A : Type 0} (P : A → Type 0) (x : A) (xs : List A) → All P (x ∷ xs) → All P xs
All-tail P x xs all k d lt = all (suc k) d (omega arith)

-- a test that no element passes
pub list_any-slice_get : {A : Type 0} (p : A → Bool) (xs : List A) (k : ℕ) (x : A) → list_any p xs ≡ false → slice_get xs k ≡ Some x → p x ≡ false
list_any-slice_get p [] k x none here = cc
list_any-slice_get p (y ∷ ys) zero x none here = subst (λ z. p z ≡ false) (some_same y x here) (neither_left (p y) (list_any p ys) none)
  where
    some_same : {A : Type 0} (a b : A) → Some a ≡ Some b → a ≡ b
    some_same a b e = cc

    neither_left : (a b : Bool) → (a || b) ≡ false → a ≡ false
    neither_left true b h = h
    neither_left false b h = refl
list_any-slice_get p (y ∷ ys) (suc k) x none here = list_any-slice_get p ys k x (neither_right (p y) (list_any p ys) none) here
  where
    neither_right : (a b : Bool) → (a || b) ≡ false → b ≡ false
    neither_right true b h = cc
    neither_right false b h = h

-- an element of a list without doubles is the first that is the same
pub position_or_len-same : {A : Type 0} (same : A → A → Bool) → ((x : A) → same x x ≡ true)
    → (xs : List A) (k : ℕ) (x : A) → all_differ same xs ≡ true → slice_get xs k ≡ Some x → position_or_len (λ y. same y x) xs ≡ k
position_or_len-same same own [] k x differ here = cc
position_or_len-same same own (y ∷ ys) zero x differ here = at_first (same y x) _ (subst (λ z. same y z ≡ true) (some_same y x here) (own y))
  where
    some_same : {A : Type 0} (a b : A) → Some a ≡ Some b → a ≡ b
    some_same a b e = cc

    at_first : (b : Bool) (n : ℕ) → b ≡ true → cond (not b) (1 + n) 0 ≡ 0
    at_first true n h = refl
    at_first false n h = cc
position_or_len-same same own (y ∷ ys) (suc k) x differ here =
    passed (same y x) _ k (list_any-slice_get (same y) ys k x (not_any (list_any (same y) ys) (both_left _ _ differ)) here)
    (position_or_len-same same own ys k x (both_right (not (list_any (same y) ys)) (all_differ same ys) differ) here)
  where
    not_any : (b : Bool) → not b ≡ true → b ≡ false
    not_any true h = cc
    not_any false h = refl

    passed : (b : Bool) (n k : ℕ) → b ≡ false → n ≡ k → cond (not b) (1 + n) 0 ≡ suc k
    passed true n k h e = cc
    passed false n k h e = omega arith

-- ---- lists without doubles, in parts

list_any-left : {A : Type 0} (p : A → Bool) (xs ys : List A) → list_any p (xs ++ ys) ≡ false → list_any p xs ≡ false
list_any-left p [] ys none = refl
list_any-left p (x ∷ xs) ys none = neither (p x) (list_any p (xs ++ ys)) (list_any p xs) none (list_any-left p xs ys)
  where
    neither : (a b c : Bool) → (a || b) ≡ false → (b ≡ false → c ≡ false) → (a || c) ≡ false
    neither true b c h k = h
    neither false b c h k = k h

list_any-right : {A : Type 0} (p : A → Bool) (xs ys : List A) → list_any p (xs ++ ys) ≡ false → list_any p ys ≡ false
list_any-right p [] ys none = none
list_any-right p (x ∷ xs) ys none = list_any-right p xs ys (second (p x) (list_any p (xs ++ ys)) none)
  where
    second : (a b : Bool) → (a || b) ≡ false → b ≡ false
    second true b h = cc
    second false b h = h

not_true : (b : Bool) → not b ≡ true → b ≡ false
not_true true h = cc
not_true false h = refl

pub all_differ-left : {A : Type 0} (same : A → A → Bool) (xs ys : List A) → all_differ same (xs ++ ys) ≡ true → all_differ same xs ≡ true
all_differ-left same [] ys differ = refl
all_differ-left same (x ∷ xs) ys differ =
    both (list_any (same x) xs) (all_differ same xs)
    (list_any-left (same x) xs ys (not_true (list_any (same x) (xs ++ ys)) (both_left (not (list_any (same x) (xs ++ ys))) (all_differ same (xs ++ ys)) differ)))
    (all_differ-left same xs ys (both_right (not (list_any (same x) (xs ++ ys))) (all_differ same (xs ++ ys)) differ))
  where
    both : (a b : Bool) → a ≡ false → b ≡ true → (not a && b) ≡ true
    both true b h k = cc
    both false b h k = k

pub all_differ-right : {A : Type 0} (same : A → A → Bool) (xs ys : List A) → all_differ same (xs ++ ys) ≡ true → all_differ same ys ≡ true
all_differ-right same [] ys differ = differ
all_differ-right same (x ∷ xs) ys differ =
    all_differ-right same xs ys (both_right (not (list_any (same x) (xs ++ ys))) (all_differ same (xs ++ ys)) differ)

-- an element of the first part isn't the same as one of the second
pub all_differ-apart : {A : Type 0} (same : A → A → Bool) (xs ys : List A) (i j : ℕ) (x y : A)
    → all_differ same (xs ++ ys) ≡ true → slice_get xs i ≡ Some x → slice_get ys j ≡ Some y → same x y ≡ false
all_differ-apart same [] ys i j x y differ at_i at_j = cc
all_differ-apart same (z ∷ xs) ys zero j x y differ at_i at_j =
    subst (λ w. same w y ≡ false) (some_same z x at_i)
    (list_any-slice_get (same z) ys j y
    (list_any-right (same z) xs ys (not_true (list_any (same z) (xs ++ ys)) (both_left (not (list_any (same z) (xs ++ ys))) (all_differ same (xs ++ ys)) differ)))
    at_j)
  where
    some_same : {A : Type 0} (a b : A) → Some a ≡ Some b → a ≡ b
    some_same a b e = cc
all_differ-apart same (z ∷ xs) ys (suc i) j x y differ at_i at_j =
    all_differ-apart same xs ys i j x y (both_right (not (list_any (same z) (xs ++ ys))) (all_differ same (xs ++ ys)) differ) at_i at_j

list_any-map : {A B : Type 0} (p : B → Bool) (f : A → B) (xs : List A) → list_any p (map f xs) ≡ list_any (λ a. p (f a)) xs
list_any-map p f [] = refl
list_any-map p f (x ∷ xs) = ap (λ b. p (f x) || b) (list_any-map p f xs)

-- of the images of a list
pub all_differ-map : {A B : Type 0} (same : B → B → Bool) (f : A → B) (xs : List A) → all_differ same (map f xs) ≡ all_differ (λ a b. same (f a) (f b)) xs
all_differ-map same f [] = refl
all_differ-map same f (x ∷ xs) =
    ap (λ b. not b && all_differ same (map f xs)) (list_any-map (same (f x)) f xs)
    ∙ ap (λ b. not (list_any (λ y. same (f x) (f y)) xs) && b) (all_differ-map same f xs)

-- the place of what has the same image as an element
pub position-same : {A B : Type 0} (same : B → B → Bool) → ((b : B) → same b b ≡ true) → (f : A → B) (xs : List A) (k : ℕ) (x : A)
    → all_differ same (map f xs) ≡ true → slice_get xs k ≡ Some x → position (λ y. same (f y) (f x)) xs ≡ Some k
position-same same own f xs k x differ here =
    at_place (position_or_len (λ y. same (f y) (f x)) xs) k (length xs)
    (position_or_len-same (λ a b. same (f a) (f b)) (λ y. own (f y)) xs k x (sym (all_differ-map same f xs) ∙ differ) here)
    (slice_get_within xs k x here)
  where
    at_place : (n k m : ℕ) → n ≡ k → k < m → cond (ltb n m) (Some n) None ≡ Some k
    at_place n k m e h = rw (e, lt-ltb k m h) refl
