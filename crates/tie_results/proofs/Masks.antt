-- Values that fit their widths are their own masks.
use Rattle.std.proofs.Common.{◌≡◌, ℕ, zero, suc, ◌+◌, ◌%◌, ◌^◌, ◌≤◌, ◌<◌, false, cond, List, [], ◌∷◌, map, length, Some, slice_get, refl, ap, sym, ◌∙◌, arith, rules}
use Rattle.std.specs.List.{All, count_by}
use Rattle.std.specs.Bool.{nat_eq}
use Rattle.std.proofs.lemmas.List.Elements.{All-head, All-tail}
use Rattle.std.proofs.lemmas.List.Sums.{sum_by-cons}
use Rattle.std.proofs.lemmas.Bool.Decides.{nat_tests}
use Rattle.tie_expr.specs.Word.{Word}
use Rattle.tie_expr.specs.Tree.{Input}
use Rattle.tie_expr.specs.Substitute.{IsOver}
use Rattle.tie_results.specs.Bodies.{input_values}

small_mod : (v n : ℕ) → v < n → v % n ≡ v
small_mod v n h = search (rules, arith)

pub values_as_given : (ws : List ℕ) (words : List Word) → map (λ w. w.width) words ≡ ws → All (λ w. w.value < 2 ^ w.width) words → input_values ws words ≡ map (λ w. w.value) words
values_as_given [] [] e fit = refl
values_as_given [] (x ∷ xs) e fit = absurd cc
values_as_given (w ∷ ws) [] e fit = absurd cc
values_as_given (w ∷ ws) (x ∷ xs) e fit =
    let here : x.width ≡ w = cc in
    let rest : map (λ (y : Word). y.width) xs ≡ ws = cc in
    ap (λ v. x.value % 2 ^ v ∷ input_values ws xs) (sym here)
    ∙ ap (λ v. v ∷ input_values ws xs) (small_mod x.value (2 ^ x.width) (All-head (λ (y : Word). y.value < 2 ^ y.width) x xs fit))
    ∙ ap (λ vs. x.value ∷ vs) (values_as_given ws xs rest (All-tail (λ (y : Word). y.value < 2 ^ y.width) x xs fit))

not_same : (i j : ℕ) → (i ≡ j → ⊥) → nat_eq i j ≡ false
not_same i j h = grind (arith, nat_tests)

get_within : (ws : List ℕ) (i w : ℕ) → slice_get ws i ≡ Some w → i < length ws
get_within [] i w e = absurd cc
get_within (v ∷ vs) zero w e = omega arith
get_within (v ∷ vs) (suc i) w e = let h = get_within vs i w e in omega (arith, h)

-- inputs beyond the widths aren't read
pub none_beyond : (ws : List ℕ) (xs : List Input) (k : ℕ) → length ws ≤ k → IsOver ws xs → count_by (λ (x : Input). nat_eq x.index k) xs ≡ 0
none_beyond ws [] k h over = refl
none_beyond ws (x ∷ xs) k h over =
    let low = get_within ws x.index x.width (All-head (λ (i : Input). slice_get ws i.index ≡ Some i.width) x xs over) in
    let here : cond {A = ℕ} (nat_eq x.index k) 1 0 ≡ 0 = ap (λ b. cond {A = ℕ} b 1 0) (not_same x.index k (λ e. omega (arith, low, h))) in
    let rest = none_beyond ws xs k h (All-tail (λ (i : Input). slice_get ws i.index ≡ Some i.width) x xs over) in
    let whole = sum_by-cons (λ (y : Input). cond (nat_eq y.index k) 1 0) x xs in
    omega (arith, whole, here, rest)
