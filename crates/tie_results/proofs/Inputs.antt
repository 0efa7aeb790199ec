-- Inputs: their numbers, their widths and their values.
use Rattle.std.proofs.Common.{◌≡◌, ℕ, zero, suc, ◌+◌, ◌*◌, ◌%◌, ◌^◌, ◌≤◌, ◌<◌, Bool, true, false, ◌&&◌, not, if◌then◌else◌, List, [], ◌∷◌, map, length, get_or, Option, Some, None, slice_get, refl, ap, sym, subst, ◌∙◌, arith, rules}
use Rattle.std.specs.Option.{option_map, is_some, is_none}
use Rattle.std.specs.Str.{bytes_eq}
use Rattle.std.specs.List.{All, count_by}
use Rattle.std.specs.Bool.{nat_eq}
use Rattle.std.proofs.lemmas.Slice.Eq.{bytes_eq-Decides}
use Rattle.std.proofs.lemmas.List.Elements.{All-cons, All-nil}
use Rattle.tie_expr.specs.Word.{Word}
use Rattle.tie_expr.specs.Meaning.{number_in}
use Rattle.tie_mean.specs.Names.{has, given}
use Rattle.tie_results.specs.Bodies.{input_number, input_values}

-- one of two names is the other
pub same_bytes : (xs ys : List ℕ) → bytes_eq xs ys ≡ true → xs ≡ ys
same_bytes xs ys e = grind (arith, bytes_eq-Decides)

pub bytes_same : (xs : List ℕ) → bytes_eq xs xs ≡ true
bytes_same xs = grind (arith, bytes_eq-Decides)

some_mapped : (o : Option ℕ) → is_some o ≡ is_some (option_map suc o)
some_mapped None = refl
some_mapped (Some i) = refl

pub has_number : (ns : List (List ℕ)) (name : List ℕ) → has ns name ≡ is_some (input_number ns name)
has_number [] name = refl
has_number (n ∷ ns) name =
    elim (bytes_eq n name) as (λ b. (if b then true else has ns name) ≡ is_some (if b then Some 0 else option_map suc (input_number ns name)))
    [ true ↦ refl | false ↦ has_number ns name ∙ some_mapped (input_number ns name) ]

zero_mod : (w : ℕ) → 0 ≡ 0 % 2 ^ w
zero_mod w = search (rules, arith)

pub given_none : (ns : List (List ℕ)) (vs : List ℕ) (name : List ℕ) → has ns name ≡ false → given ns vs name ≡ 0
given_none [] vs name h = refl
given_none (n ∷ ns) [] name h = refl
given_none (n ∷ ns) (v ∷ vs) name h =
    elim (bytes_eq n name) as (λ b. (if b then true else has ns name) ≡ false → (if b then v else given ns vs name) ≡ 0)
    [ true ↦ λ e. absurd cc | false ↦ λ e. given_none ns vs name e ] h

-- what is known of the number of a name
pub record At (f : List ℕ → ℕ) (ns : List (List ℕ)) (name : List ℕ) (i : ℕ) : Type 0 where
  pub within : i < length ns
  pub width : slice_get (map f ns) i ≡ Some (f name)
  pub called : get_or ns i [] ≡ name
  pub value : (words : List Word) → given ns (input_values (map f ns) words) name ≡ number_in (slice_get words i) % 2 ^ f name

at_first : (f : List ℕ → ℕ) (n : List ℕ) (ns : List (List ℕ)) (name : List ℕ) → bytes_eq n name ≡ true → At f (n ∷ ns) name zero
at_first f n ns name e =
    let same = same_bytes n name e in
    record {
      within = omega arith;
      width = ap (λ m. Some (f m)) same;
      called = same;
      value = λ words. first_value words same;
    }
  where
    first_value : (words : List Word) → n ≡ name → given (n ∷ ns) (input_values (map f (n ∷ ns)) words) name ≡ number_in (slice_get words zero) % 2 ^ f name
    first_value [] same = zero_mod (f name)
    first_value (x ∷ xs) same =
        ap (λ b. if b then x.value % 2 ^ f n else given ns (input_values (map f ns) xs) name) e ∙ ap (λ m. x.value % 2 ^ f m) same

at_later : (f : List ℕ → ℕ) (n : List ℕ) (ns : List (List ℕ)) (name : List ℕ) (i : ℕ) → bytes_eq n name ≡ false → At f ns name i → At f (n ∷ ns) name (suc i)
at_later f n ns name i e at = record {
  within = omega (arith, at.within);
  width = at.width;
  called = at.called;
  value = λ words. later_value words;
}
  where
    later_value : (words : List Word) → given (n ∷ ns) (input_values (map f (n ∷ ns)) words) name ≡ number_in (slice_get words (suc i)) % 2 ^ f name
    later_value [] = zero_mod (f name)
    later_value (x ∷ xs) = ap (λ b. if b then x.value % 2 ^ f n else given ns (input_values (map f ns) xs) name) e ∙ at.value xs

pub at_number : (f : List ℕ → ℕ) (ns : List (List ℕ)) (name : List ℕ) (i : ℕ) → input_number ns name ≡ Some i → At f ns name i
at_number f [] name i e = absurd cc
at_number f (n ∷ ns) name i e =
    elim (bytes_eq n name) as (λ b. bytes_eq n name ≡ b → (if b then Some 0 else option_map suc (input_number ns name)) ≡ Some i → At f (n ∷ ns) name i) [
      | true ↦ λ t h. let zero_is : 0 ≡ i = cc in subst (At f (n ∷ ns) name) zero_is (at_first f n ns name t)
      | false ↦ λ t h. later (λ j is. at_number f ns name j is) (input_number ns name) refl t h
    ] refl e
  where
    later : ((j : ℕ) → input_number ns name ≡ Some j → At f ns name j) → (o : Option ℕ) → input_number ns name ≡ o → bytes_eq n name ≡ false → option_map suc o ≡ Some i → At f (n ∷ ns) name i
    later rest None is t h = absurd cc
    later rest (Some j) is t h = let next : suc j ≡ i = cc in subst (At f (n ∷ ns) name) next (at_later f n ns name j t (rest j is))
