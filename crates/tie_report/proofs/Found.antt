-- The first of the chosen ports whose queue passes.
use Rattle.std.proofs.Common.{◌≡◌, ℕ, ◌+◌, ◌-◌, ◌<◌, ◌≤◌, suc, Bool, true, false, cond, List, [], ◌∷◌, map, filter, Option, Some, None, refl, sym, ap, ◌∙◌, arith}
use Rattle.std.specs.Prelude.{find, if◌then◌else◌}
use Rattle.std.specs.List.{range_with_len}
use Rattle.std.specs.Option.{option_or}

-- the first queue of the n ports from i on that are chosen
abbrev pub found : (ℕ → Bool) → (ℕ → ℕ) → (ℕ → Bool) → ℕ → ℕ → Option ℕ
found passes queue test i n = find passes (map queue (filter test (range_with_len i n)))

-- at one port
abbrev pub found_at : (ℕ → Bool) → (ℕ → ℕ) → (ℕ → Bool) → ℕ → Option ℕ
found_at passes queue test i = find passes (if test i then queue i ∷ [] else [])

or_else : (d : Bool) (x : ℕ) (r : Option ℕ) → cond d (Some x) r ≡ option_or (cond d (Some x) None) r
or_else true x r = refl
or_else false x r = refl

chosen_or : (b : Bool) (passes : ℕ → Bool) (queue : ℕ → ℕ) (i : ℕ) (rest : List ℕ)
    → find passes (map queue (cond b (i ∷ rest) rest)) ≡ option_or (find passes (cond b (queue i ∷ []) [])) (find passes (map queue rest))
chosen_or true passes queue i rest = or_else (passes (queue i)) (queue i) (find passes (map queue rest))
chosen_or false passes queue i rest = refl

found_first : (passes : ℕ → Bool) (queue : ℕ → ℕ) (test : ℕ → Bool) (i n : ℕ) → found passes queue test i (suc n) ≡ option_or (found_at passes queue test i) (found passes queue test (i + 1) n)
found_first passes queue test i n = chosen_or (test i) passes queue i (filter test (range_with_len (i + 1) n))

found_step : (passes : ℕ → Bool) (queue : ℕ → ℕ) (test : ℕ → Bool) (i count : ℕ) → i < count
    → found passes queue test i (count - i) ≡ option_or (found_at passes queue test i) (found passes queue test (i + 1) (count - (i + 1)))
found_step passes queue test i count h =
    let left : count - i ≡ suc (count - (i + 1)) = omega arith in
    ap (λ n. found passes queue test i n) left ∙ found_first passes queue test i (count - (i + 1))

pub found_here : (passes : ℕ → Bool) (queue : ℕ → ℕ) (test : ℕ → Bool) (i count q : ℕ) → i < count → Some q ≡ found_at passes queue test i
    → Some q ≡ found passes queue test i (count - i)
found_here passes queue test i count q h e =
    ap (λ o. option_or o (found passes queue test (i + 1) (count - (i + 1)))) e ∙ sym (found_step passes queue test i count h)

pub found_later : (passes : ℕ → Bool) (queue : ℕ → ℕ) (test : ℕ → Bool) (i count : ℕ) → i < count → None ≡ found_at passes queue test i
    → found passes queue test (i + 1) (count - (i + 1)) ≡ found passes queue test i (count - i)
found_later passes queue test i count h e =
    ap (λ o. option_or o (found passes queue test (i + 1) (count - (i + 1)))) e ∙ sym (found_step passes queue test i count h)

pub found_none : (passes : ℕ → Bool) (queue : ℕ → ℕ) (test : ℕ → Bool) (i count : ℕ) → count ≤ i → None ≡ found passes queue test i (count - i)
found_none passes queue test i count h = let none : count - i ≡ 0 = omega arith in ap (λ n. found passes queue test i n) (sym none)
