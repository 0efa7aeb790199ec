-- Sums over the inputs that an expression reads, and over arguments as often as they count.
use Rattle.std.proofs.Common.{◌≡◌, ℕ, zero, suc, ◌+◌, ◌-◌, ◌*◌, ◌≤◌, ◌<◌, Bool, true, false, cond, List, [], ◌∷◌, ◌++◌, map, length, get_or, refl, ap, sym, ◌∙◌, arith, add-one}
use Rattle.std.specs.List.{sum_by, count_by, flat_map, slice_index_or}
use Rattle.std.specs.Bool.{nat_eq}
use Rattle.std.proofs.lemmas.Bool.{cases_eq}
use Rattle.std.proofs.lemmas.Bool.Decides.{nat_tests}
use Rattle.std.proofs.lemmas.List.Sums.{sum_by-cons, sum_by-append}
use Rattle.tie_expr.specs.Tree.{Input}
use Rattle.tie_mean.specs.Counts.{weighted}

not_same : (i j : ℕ) → (i ≡ j → ⊥) → nat_eq i j ≡ false
not_same i j h = grind (arith, nat_tests)

same : (i : ℕ) → nat_eq i i ≡ true
same i = grind (arith, nat_tests)

pub at_most_one : (i w j : ℕ) → count_by (λ (x : Input). nat_eq x.index j) (record { index = i; width = w } ∷ []) ≤ 1
at_most_one i w j = elim (nat_eq i j) as (λ b. 0 + cond b 1 0 ≤ 1) [ true ↦ omega arith | false ↦ omega arith ]

pub no_read : (i w j : ℕ) → (i ≡ j → ⊥) → count_by (λ (x : Input). nat_eq x.index j) (record { index = i; width = w } ∷ []) ≡ 0
no_read i w j h = ap (λ b. 0 + cond b 1 0) (not_same i j h)

-- the number at a place of a list that begins at s
at : ℕ → List ℕ → ℕ → ℕ
at s [] k = 0
at s (g ∷ gs) k = cond (nat_eq k s) g 0 + at (suc s) gs k

at_before : (s : ℕ) (gs : List ℕ) (k : ℕ) → k < s → at s gs k ≡ 0
unfolding at
at_before s [] k h = refl
at_before s (g ∷ gs) k h =
    let here : cond (nat_eq k s) g 0 ≡ 0 = ap (λ b. cond b g 0) (not_same k s (λ e. omega arith)) in
    let later = at_before (suc s) gs k (omega arith) in
    omega (arith, here, later)

at_place : (s : ℕ) (gs : List ℕ) (k : ℕ) → at s gs (s + k) ≡ get_or gs k 0
unfolding at
at_place s [] k = refl
at_place s (g ∷ gs) zero =
    let place : s + 0 ≡ s = omega arith in
    let here : cond (nat_eq (s + 0) s) g 0 ≡ g = ap (λ k. cond (nat_eq k s) g 0) place ∙ ap (λ b. cond b g 0) (same s) in
    let later = at_before (suc s) gs (s + 0) (omega arith) in
    omega (arith, here, later)
at_place s (g ∷ gs) (suc k) =
    let place : s + suc k ≡ suc s + k = omega arith in
    let here : cond (nat_eq (s + suc k) s) g 0 ≡ 0 = ap (λ b. cond b g 0) (not_same (s + suc k) s (λ e. omega arith)) in
    let later : at (suc s) gs (s + suc k) ≡ get_or gs k 0 = ap (at (suc s) gs) place ∙ at_place (suc s) gs k in
    omega (arith, here, later)

sum_zero : (xs : List Input) → sum_by (λ x. 0) xs ≡ 0
sum_zero [] = refl
sum_zero (x ∷ xs) =
    let one = sum_by-cons (λ (y : Input). 0) x xs in
    let rest = sum_zero xs in
    omega (arith, one, rest)

sum_both : (f g : Input → ℕ) (xs : List Input) → sum_by (λ x. f x + g x) xs ≡ sum_by f xs + sum_by g xs
sum_both f g [] = refl
sum_both f g (x ∷ xs) =
    let whole = sum_by-cons (λ y. f y + g y) x xs in
    let left = sum_by-cons f x xs in
    let right = sum_by-cons g x xs in
    let rest = sum_both f g xs in
    omega (arith, whole, left, right, rest)

times_here : (b : Bool) (g n : ℕ) → cond b g 0 + g * n ≡ g * (cond b 1 0 + n)
times_here true g n = grind arith
times_here false g n = grind arith

sum_here : (s g : ℕ) (xs : List Input) → sum_by (λ x. cond (nat_eq x.index s) g 0) xs ≡ g * count_by (λ x. nat_eq x.index s) xs
sum_here s g [] = grind arith
sum_here s g (x ∷ xs) =
    let whole = sum_by-cons (λ (y : Input). cond (nat_eq y.index s) g 0) x xs in
    let count = sum_by-cons (λ (y : Input). cond (nat_eq y.index s) 1 0) x xs in
    whole ∙ ap (λ n. cond (nat_eq x.index s) g 0 + n) (sum_here s g xs) ∙ times_here (nat_eq x.index s) g (count_by (λ y. nat_eq y.index s) xs) ∙ ap (λ n. g * n) (sym count)

more_times : (g n t : ℕ) → n ≤ t → g * n ≤ t * g
more_times g n t h = grind arith

-- each argument at each of its reads, from place s on
reads_from : (times : ℕ → ℕ) (xs : List Input) (s : ℕ) (gs : List ℕ) → ((k : ℕ) → count_by (λ x. nat_eq x.index k) xs ≤ times k) → sum_by (λ x. at s gs x.index) xs ≤ weighted times s gs
unfolding at
reads_from times xs s [] often = let none = sum_zero xs in omega (arith, none)
reads_from times xs s (g ∷ gs) often =
    let both = sum_both (λ x. cond (nat_eq x.index s) g 0) (λ x. at (suc s) gs x.index) xs in
    let here = sum_here s g xs in
    let most = more_times g (count_by (λ x. nat_eq x.index s) xs) (times s) (often s) in
    let rest : sum_by (λ x. at (suc s) gs x.index) xs ≤ weighted times (s + 1) gs = rw add-one (reads_from times xs (suc s) gs often) in
    omega (arith, both, here, most, rest)

sum_same : (f g : Input → ℕ) (xs : List Input) → ((x : Input) → f x ≡ g x) → sum_by f xs ≡ sum_by g xs
sum_same f g xs h = ap (λ (q : Input → ℕ). sum_by q xs) (λ i x. h x i)

placed : (gs : List ℕ) (k : ℕ) → slice_index_or gs k 0 ≡ at 0 gs k
placed gs k = let zero_first : 0 + k ≡ k = omega arith in sym (at_place 0 gs k) ∙ ap (at 0 gs) zero_first

-- what stands at the reads of an expression, together, is at most all arguments as often as they count
pub sum_at_reads : (times : ℕ → ℕ) (xs : List Input) (gs : List ℕ) → ((k : ℕ) → count_by (λ x. nat_eq x.index k) xs ≤ times k) → sum_by (λ x. slice_index_or gs x.index 0) xs ≤ weighted times 0 gs
sum_at_reads times xs gs often =
    let e = sum_same (λ x. slice_index_or gs x.index 0) (λ x. at 0 gs x.index) xs (λ x. placed gs x.index) in
    let most = reads_from times xs 0 gs often in
    omega (arith, e, most)

-- reads of the arguments that stand at the reads of an expression
pub count_at_reads : (k : ℕ) (xs : List Input) (args : List (List Input))
    → count_by (λ (x : Input). nat_eq x.index k) (flat_map (λ (x : Input). slice_index_or args x.index []) xs)
    ≡ sum_by (λ (x : Input). slice_index_or (map (count_by (λ (y : Input). nat_eq y.index k)) args) x.index 0) xs
count_at_reads k [] args = refl
count_at_reads k (x ∷ xs) args =
    let p : Input → Bool = λ y. nat_eq y.index k in
    sum_by-append (λ (y : Input). cond (nat_eq y.index k) 1 0) (slice_index_or args x.index []) (flat_map (λ (y : Input). slice_index_or args y.index []) xs)
    ∙ ap (λ n. count_by p (slice_index_or args x.index []) + n) (count_at_reads k xs args)
    ∙ ap (λ n. n + sum_by (λ (y : Input). slice_index_or (map (count_by p) args) y.index 0) xs) (counted args x.index)
    ∙ sym (sum_by-cons (λ (y : Input). slice_index_or (map (count_by p) args) y.index 0) x xs)
  where
    counted : (rows : List (List Input)) (i : ℕ) → count_by (λ (y : Input). nat_eq y.index k) (slice_index_or rows i []) ≡ slice_index_or (map (count_by (λ (y : Input). nat_eq y.index k)) rows) i 0
    counted [] i = refl
    counted (row ∷ rows) zero = refl
    counted (row ∷ rows) (suc i) = counted rows i
