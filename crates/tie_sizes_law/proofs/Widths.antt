-- The names of a list have widths of 1 to 128, where each of them has.
use Rattle.std.proofs.Common.{◌≡◌, ℕ, List, [], ◌∷◌, ◌++◌, map, Bool, true, false, cond, ◌||◌, refl, ap, ◌∙◌}
use Rattle.std.specs.List.{flat_map, AllByRecursion, list_any}
use Rattle.std.proofs.lemmas.List.{map-append}
use Rattle.tie_mean.specs.Literals.{is_width}
use Rattle.tie_mean.specs.Names.{Declared, is_named, width_in, is_among}

abbrev pub AreWide : List Declared → Type 0
AreWide xs = AllByRecursion (λ x. is_width x.width ≡ true) xs

pub wide_in : (xs : List Declared) (n : List ℕ) → AreWide xs → is_among xs n ≡ true → is_width (width_in xs n) ≡ true
wide_in [] n h e = absurd cc
wide_in (x ∷ xs) n h e = by_test (is_named n x.name) e (λ r. wide_in xs n h.1 r)
  where
    by_test : (b : Bool) → cond b true (is_among xs n) ≡ true → (is_among xs n ≡ true → is_width (width_in xs n) ≡ true) → is_width (cond b x.width (width_in xs n)) ≡ true
    by_test true r again = h.0
    by_test false r again = again r

pub wide-append : (xs ys : List Declared) → AreWide xs → AreWide ys → AreWide (xs ++ ys)
wide-append [] ys h k = k
wide-append (x ∷ xs) ys h k = (h.0, wide-append xs ys h.1 k)

pub wide-map : {A : Type 0} (f : A → Declared) (xs : List A) → AllByRecursion (λ x. is_width (f x).width ≡ true) xs → AreWide (map f xs)
wide-map f [] h = tt
wide-map f (x ∷ xs) h = (h.0, wide-map f xs h.1)

pub wide-flat : {A : Type 0} (f : A → List Declared) (xs : List A) → AllByRecursion (λ x. AreWide (f x)) xs → AreWide (flat_map f xs)
wide-flat f [] h = tt
wide-flat f (x ∷ xs) h = wide-append (f x) (flat_map f xs) h.0 (wide-flat f xs h.1)

pub among-append : (xs ys : List Declared) (n : List ℕ) → is_among (xs ++ ys) n ≡ (is_among xs n || is_among ys n)
among-append [] ys n = refl
among-append (x ∷ xs) ys n = by_test (is_named n x.name) (among-append xs ys n)
  where
    by_test : (b : Bool) → is_among (xs ++ ys) n ≡ (is_among xs n || is_among ys n) → cond b true (is_among (xs ++ ys) n) ≡ (cond b true (is_among xs n) || is_among ys n)
    by_test true again = refl
    by_test false again = again

pub among-map : {A : Type 0} (f : A → Declared) (xs : List A) (n : List ℕ) → is_among (map f xs) n ≡ list_any (λ x. is_named n (f x).name) xs
among-map f [] n = refl
among-map f (x ∷ xs) n = by_test (is_named n (f x).name) (among-map f xs n)
  where
    by_test : (b : Bool) → is_among (map f xs) n ≡ list_any (λ y. is_named n (f y).name) xs → cond b true (is_among (map f xs) n) ≡ (b || list_any (λ y. is_named n (f y).name) xs)
    by_test true again = refl
    by_test false again = again

pub among-flat : {A : Type 0} (f : A → List Declared) (test : A → Bool) (n : List ℕ) → ((x : A) → is_among (f x) n ≡ test x) → (xs : List A) → is_among (flat_map f xs) n ≡ list_any test xs
among-flat f test n is [] = refl
among-flat f test n is (x ∷ xs) = among-append (f x) (flat_map f xs) n ∙ ap (λ b. b || is_among (flat_map f xs) n) (is x) ∙ ap (λ b. test x || b) (among-flat f test n is xs)

pub map-flat : {A B C : Type 0} (g : B → C) (f : A → List B) (xs : List A) → map g (flat_map f xs) ≡ flat_map (λ x. map g (f x)) xs
map-flat g f [] = refl
map-flat g f (x ∷ xs) = map-append g (f x) (flat_map f xs) ∙ ap (λ z. map g (f x) ++ z) (map-flat g f xs)

-- a test that is written as a choice
pub one_test : (b : Bool) → cond b true false ≡ b
one_test true = refl
one_test false = refl
