-- How many elements of a list pass a test.
use Rattle.std.proofs.Common.{◌≡◌, ℕ, ◌+◌, ◌≤◌, Bool, true, false, cond, ◌||◌, List, [], ◌∷◌, ◌++◌, count_by, find, Option, Some, None, All, refl, sym, ◌∙◌, subst, arith}
use Rattle.std.specs.List.{list_any}
use Rattle.std.proofs.lemmas.List.Sums.{sum_by-cons, sum_by_push}
use Rattle.std.proofs.lemmas.List.Elements.{All-nil, All-cons}

-- the first element counts, or not
pub count_by-cons : {A : Type 0} (p : A → Bool) (x : A) (xs : List A) → count_by p (x ∷ xs) ≡ cond (p x) 1 0 + count_by p xs
count_by-cons p x xs = sum_by-cons (λ y. cond (p y) 1 0) x xs

-- ---- at least one

some_here : (b rest : Bool) (n : ℕ) → (b || rest) ≡ true → (rest ≡ true → 1 ≤ n) → 1 ≤ cond b 1 0 + n
some_here true rest n h more = omega arith
some_here false rest n h more = let later : 1 ≤ n = more h in omega arith

-- where one passes, at least one does
pub count_by-some : {A : Type 0} (p : A → Bool) (xs : List A) → list_any p xs ≡ true → 1 ≤ count_by p xs
count_by-some p [] h = absurd cc
count_by-some p (x ∷ xs) h =
    let here : 1 ≤ cond (p x) 1 0 + count_by p xs = some_here (p x) (list_any p xs) (count_by p xs) h (count_by-some p xs) in
    subst (λ n. 1 ≤ n) (sym (count_by-cons p x xs)) here

-- ---- none

none_here : (b s rest : Bool) (n : ℕ) → (b ≡ true → s ≡ true) → (s || rest) ≡ false → (rest ≡ false → n ≡ 0) → cond b 1 0 + n ≡ 0
none_here b true rest n agree h more = absurd cc
none_here true false rest n agree h more = let bad : false ≡ true = agree refl in absurd cc
none_here false false rest n agree h more = let none : n ≡ 0 = more h in omega arith

-- where none passes a test, none passes a stricter one
pub count_by-none : {A : Type 0} (p test : A → Bool) → ((x : A) → p x ≡ true → test x ≡ true) → (xs : List A) → list_any test xs ≡ false → count_by p xs ≡ 0
count_by-none p test agree [] h = refl
count_by-none p test agree (x ∷ xs) h =
    count_by-cons p x xs ∙ none_here (p x) (test x) (list_any test xs) (count_by p xs) (agree x) h (count_by-none p test agree xs)

not_found_here : {A : Type 0} (b : Bool) (x : A) (rest : Option A) (n : ℕ) → cond b (Some x) rest ≡ None → (rest ≡ None → n ≡ 0) → cond b 1 0 + n ≡ 0
not_found_here true x rest n e more = absurd cc
not_found_here false x rest n e more = let none : n ≡ 0 = more e in omega arith

-- where none is found, none passes
pub count_by-not_found : {A : Type 0} (p : A → Bool) (xs : List A) → find p xs ≡ None → count_by p xs ≡ 0
count_by-not_found p [] e = refl
count_by-not_found p (x ∷ xs) e = count_by-cons p x xs ∙ not_found_here (p x) x (find p xs) (count_by p xs) e (count_by-not_found p xs)

-- ---- at most one

once_here : (b : Bool) (n : ℕ) → (b ≡ true → n ≡ 0) → n ≤ 1 → n + cond b 1 0 ≤ 1
once_here true n none le = let nothing : n ≡ 0 = none refl in omega arith
once_here false n none le = omega arith

-- one more element, which is the same as none before it
pub count_by-push : {A : Type 0} (p : A → Bool) (same : A → A → Bool) → ((x y : A) → p x ≡ true → p y ≡ true → same x y ≡ true)
    → (before : List A) (y : A) → list_any (same y) before ≡ false → count_by p before ≤ 1 → count_by p (before ++ y ∷ []) ≤ 1
count_by-push p same agree before y new le =
    let here : count_by p before + cond (p y) 1 0 ≤ 1 =
    once_here (p y) (count_by p before) (λ own. count_by-none p (same y) (λ x other. agree y x own other) before new) le in
    subst (λ n. n ≤ 1) (sym (sum_by_push (λ x. cond (p x) 1 0) before y)) here

-- ---- exactly one

abbrev WherePasses : {A : Type 0} → (A → Bool) → (A → Type 0) → A → Type 0
WherePasses p P x = p x ≡ true → P x

none_first : {A : Type 0} (p : A → Bool) (P : A → Type 0) (x : A) (xs : List A) (b : Bool) → p x ≡ b → cond b 1 0 + count_by p xs ≡ 0
    → (count_by p xs ≡ 0 → All (WherePasses p P) xs) → All (WherePasses p P) (x ∷ xs)
none_first p P x xs true is e more = absurd (omega arith)
none_first p P x xs false is e more = All-cons (WherePasses p P) x xs (λ passes. absurd cc) (more (omega arith))

all_none : {A : Type 0} (p : A → Bool) (P : A → Type 0) (xs : List A) → count_by p xs ≡ 0 → All (WherePasses p P) xs
all_none p P [] h = All-nil (WherePasses p P)
all_none p P (x ∷ xs) h = none_first p P x xs (p x) refl (sym (count_by-cons p x xs) ∙ h) (all_none p P xs)

only_first : {A : Type 0} (p : A → Bool) (P : A → Type 0) (one : A) → P one → (x : A) (xs : List A) (b : Bool) → p x ≡ b
    → cond b 1 0 + count_by p xs ≡ 1 → cond b (Some x) (find p xs) ≡ Some one
    → (count_by p xs ≡ 1 → find p xs ≡ Some one → All (WherePasses p P) xs) → All (WherePasses p P) (x ∷ xs)
only_first p P one holds x xs true is count here more =
    let same : one ≡ x = cc in
    let rest : count_by p xs ≡ 0 = omega arith in
    All-cons (WherePasses p P) x xs (λ passes. subst P same holds) (all_none p P xs rest)
only_first p P one holds x xs false is count later more =
    let rest : count_by p xs ≡ 1 = omega arith in
    All-cons (WherePasses p P) x xs (λ passes. absurd cc) (more rest later)

-- where one passes, it is the first that does
pub find-only : {A : Type 0} (p : A → Bool) (P : A → Type 0) (one : A) → P one → (xs : List A) → count_by p xs ≡ 1 → find p xs ≡ Some one
    → All (λ x. p x ≡ true → P x) xs
find-only p P one holds [] h e = All-nil (WherePasses p P)
find-only p P one holds (x ∷ xs) h e =
    only_first p P one holds x xs (p x) refl (sym (count_by-cons p x xs) ∙ h) e (find-only p P one holds xs)
