-- The first thing of a name, where no earlier one has it.
use Rattle.std.proofs.Common.{◌≡◌, ℕ, zero, suc, ◌<◌, List, [], ◌∷◌, ◌++◌, map, take, Bool, true, false, cond, Some, refl, sym, ap, subst, ◌∙◌, slice_get, bytes_eq, arith}
use Rattle.std.specs.List.{flat_map, list_any}
use Rattle.std.specs.Cmp.Lexicographic.{bytes_decides}
use Rattle.std.proofs.lemmas.Bool.{or_parts, or_from}
use Rattle.tie_mean.specs.Names.{Declared, is_named, is_among, width_in, range_width, function_of, function_declared, parameters_in}
use Rattle.tie_grammar.specs.declared.tree.Parameter.{Parameter}
use Rattle.tie_grammar.specs.declared.tree.Function.{Function}
use Rattle.tie_grammar.specs.declared.tree.Decl.{Decl}
use Rattle.tie_grammar.specs.declared.tree.Decl.TheVariants as d
use Rattle.tie_rules.specs.Names.{declares, declares_function}
use Rattle.tie_sizes_law.proofs.At.{same_some}

pub other_way : (a b : List ℕ) (r : Bool) → bytes_eq a b ≡ r → bytes_eq b a ≡ r
other_way a b true h = (bytes_decides b a).1 (sym ((bytes_decides a b).0 h))
other_way a b false h = by_answer (bytes_eq b a) refl
  where
    by_answer : (c : Bool) → bytes_eq b a ≡ c → bytes_eq b a ≡ false
    by_answer true e = absurd (let f = (bytes_decides a b).1 (sym ((bytes_decides b a).0 e)) in cc)
    by_answer false e = e

pub none_from : {A : Type 0} (test : A → Bool) (xs : List A) → ((k : ℕ) (x : A) → slice_get xs k ≡ Some x → test x ≡ false) → list_any test xs ≡ false
none_from test [] h = refl
none_from test (x ∷ xs) h = or_from (test x) (list_any test xs) (h 0 x refl) (none_from test xs (λ k y e. h (suc k) y e))

-- a name that is none of the first is one of the others
pub width_past : (xs ys : List Declared) (n : List ℕ) → is_among xs n ≡ false → width_in (xs ++ ys) n ≡ width_in ys n
width_past [] ys n h = refl
width_past (x ∷ xs) ys n h = by_test (is_named n x.name) h (λ r. width_past xs ys n r)
  where
    by_test : (b : Bool) → cond b true (is_among xs n) ≡ false → (is_among xs n ≡ false → width_in (xs ++ ys) n ≡ width_in ys n) → cond b x.width (width_in (xs ++ ys) n) ≡ width_in ys n
    by_test true r again = absurd cc
    by_test false r again = again r

-- the width of the first of a name
pub width_first : {A : Type 0} (g : A → Declared) (n : List ℕ) (xs : List A) (ys : List Declared) (j : ℕ) (x : A) → slice_get xs j ≡ Some x → is_named n (g x).name ≡ true
    → list_any (λ y. is_named n (g y).name) (take j xs) ≡ false → width_in (map g xs ++ ys) n ≡ (g x).width
width_first g n [] ys j x e here none = absurd cc
width_first g n (y ∷ xs) ys zero x e here none =
    let same = same_some y x e in
    ap (λ b. cond b (g y).width (width_in (map g xs ++ ys) n)) (ap (λ z. is_named n (g z).name) same ∙ here) ∙ ap (λ z. (g z).width) same
width_first g n (y ∷ xs) ys (suc j) x e here none =
    let parts = or_parts (is_named n (g y).name) (list_any (λ z. is_named n (g z).name) (take j xs)) none in
    ap (λ b. cond b (g y).width (width_in (map g xs ++ ys) n)) parts.0 ∙ width_first g n xs ys j x e here parts.1

-- ---- functions

not_there : (n : List ℕ) (x : Decl) → declares n x ≡ false → declares_function n x ≡ false
not_there n (d.Function f) h = h
not_there n _ h = refl

module _ (n : List ℕ) (f : Function) (here : is_named n f.name ≡ true) where
  pub width_of_function : (xs : List Decl) (k : ℕ) → slice_get xs k ≡ Some (d.Function f) → list_any (declares n) (take k xs) ≡ false
      → width_in (map function_declared (flat_map function_of xs)) n ≡ range_width f.range
  width_of_function [] k e none = absurd cc
  width_of_function (x ∷ xs) zero e none =
      subst (λ z. width_in (map function_declared (function_of z ++ flat_map function_of xs)) n ≡ range_width f.range) (sym (same_some x (d.Function f) e))
      (ap (λ b. cond b (range_width f.range) (width_in (map function_declared (flat_map function_of xs)) n)) here)
  width_of_function (x ∷ xs) (suc k) e none =
      let parts = or_parts (declares n x) (list_any (declares n) (take k xs)) none in
      by_decl x (not_there n x parts.0) (width_of_function xs k e parts.1)
    where
      by_decl : (x : Decl) → declares_function n x ≡ false → width_in (map function_declared (flat_map function_of xs)) n ≡ range_width f.range
          → width_in (map function_declared (function_of x ++ flat_map function_of xs)) n ≡ range_width f.range
      by_decl (d.Function g) other again = ap (λ b. cond b (range_width g.range) (width_in (map function_declared (flat_map function_of xs)) n)) other ∙ again
      by_decl _ other again = again

  pub parameters_of_function : (xs : List Decl) (k : ℕ) → slice_get xs k ≡ Some (d.Function f) → list_any (declares n) (take k xs) ≡ false
      → parameters_in (flat_map function_of xs) n ≡ map (λ (p : Parameter). range_width p.range) f.parameters
  parameters_of_function [] k e none = absurd cc
  parameters_of_function (x ∷ xs) zero e none =
      subst (λ z. parameters_in (function_of z ++ flat_map function_of xs) n ≡ map (λ (p : Parameter). range_width p.range) f.parameters) (sym (same_some x (d.Function f) e))
      (ap (λ b. cond b (map (λ (p : Parameter). range_width p.range) f.parameters) (parameters_in (flat_map function_of xs) n)) here)
  parameters_of_function (x ∷ xs) (suc k) e none =
      let parts = or_parts (declares n x) (list_any (declares n) (take k xs)) none in
      by_decl x (not_there n x parts.0) (parameters_of_function xs k e parts.1)
    where
      by_decl : (x : Decl) → declares_function n x ≡ false → parameters_in (flat_map function_of xs) n ≡ map (λ (p : Parameter). range_width p.range) f.parameters
          → parameters_in (function_of x ++ flat_map function_of xs) n ≡ map (λ (p : Parameter). range_width p.range) f.parameters
      by_decl (d.Function g) other again = ap (λ b. cond b (map (λ (p : Parameter). range_width p.range) g.parameters) (parameters_in (flat_map function_of xs) n)) other ∙ again
      by_decl _ other again = again

pub among_first : {A : Type 0} (xs : List A) (j k : ℕ) (x : A) → slice_get xs j ≡ Some x → j < k → slice_get (take k xs) j ≡ Some x
among_first [] j k x e lt = absurd cc
among_first (y ∷ xs) j zero x e lt = absurd (omega arith)
among_first (y ∷ xs) zero (suc k) x e lt = e
among_first (y ∷ xs) (suc j) (suc k) x e lt = among_first xs j k x e (omega arith)

pub same_maps : {A B C : Type 0} (f : B → C) (g : A → B) (h : A → C) (xs : List A) → ((j : ℕ) (x : A) → slice_get xs j ≡ Some x → f (g x) ≡ h x) → map f (map g xs) ≡ map h xs
same_maps f g h [] e = refl
same_maps f g h (x ∷ xs) e = ap (λ z. z ∷ map f (map g xs)) (e 0 x refl) ∙ ap (λ z. h x ∷ z) (same_maps f g h xs (λ j y r. e (suc j) y r))
