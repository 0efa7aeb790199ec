-- First places of lists.
use Rattle.std.proofs.Common.{◌≡◌, ◌⊎◌, inl, inr, ℕ, zero, suc, ◌+◌, ◌<◌, ◌≤◌, List, [], ◌∷◌, ◌++◌, Bool, true, false, not, ◌||◌, cond, ltb, option_map, Option, Some, None, refl, ap, sym, subst, ◌∙◌, arith, length}
use Rattle.std.specs.List.{position, position_or_len, list_any, slice_get, filter}
use borrow.Author.Tests.{ltb-true, ltb-false}
use Rattle.tie_description_law.proofs.Elements.{In}

step_test : (n m : ℕ) → ltb (1 + n) (suc m) ≡ ltb n m
step_test n m = by_tests (ltb (1 + n) (suc m)) (ltb n m) refl refl
  where
    by_tests : (b c : Bool) → ltb (1 + n) (suc m) ≡ b → ltb n m ≡ c → b ≡ c
    by_tests true true h i = refl
    by_tests true false h i = absurd (let a : 1 + n < suc m = ltb-true _ _ h in let b : m ≤ n = ltb-false _ _ i in omega (arith, a, b))
    by_tests false true h i = absurd (let a : suc m ≤ 1 + n = ltb-false _ _ h in let b : n < m = ltb-true _ _ i in omega (arith, a, b))
    by_tests false false h i = refl

step_place : (n m : ℕ) → cond (ltb (1 + n) (suc m)) (Some (1 + n)) None ≡ option_map (λ x. suc x) (cond (ltb n m) (Some n) None)
step_place n m = ap (λ b. cond b (Some (1 + n)) None) (step_test n m) ∙ by_test (ltb n m)
  where
    by_test : (b : Bool) → cond b (Some (1 + n)) None ≡ option_map (λ x. suc x) (cond b (Some n) None)
    by_test true = let e : 1 + n ≡ suc n = omega arith in ap Some e
    by_test false = refl

first_place : (m : ℕ) → cond {A = Option ℕ} (ltb 0 (suc m)) (Some 0) None ≡ Some 0
first_place m = by_test (ltb 0 (suc m)) refl
  where
    by_test : (b : Bool) → ltb 0 (suc m) ≡ b → cond {A = Option ℕ} b (Some 0) None ≡ Some 0
    by_test true h = refl
    by_test false h = absurd (let a : suc m ≤ 0 = ltb-false _ _ h in omega (arith, a))

pub position_cons : {A : Type 0} (p : A → Bool) (x : A) (xs : List A) → position p (x ∷ xs) ≡ cond (p x) (Some 0) (option_map (λ i. suc i) (position p xs))
position_cons p x xs = by_test (p x)
  where
    by_test : (b : Bool) → cond (ltb (cond (not b) (1 + position_or_len p xs) 0) (length (x ∷ xs))) (Some (cond (not b) (1 + position_or_len p xs) 0)) None ≡ cond b (Some 0) (option_map (λ i. suc i) (position p xs))
    by_test true = first_place (length xs)
    by_test false = step_place (position_or_len p xs) (length xs)

-- what is found
pub record Found {A : Type 0} (p : A → Bool) (xs : List A) (i : ℕ) : Type 0 where
  pub it : A
  pub at : slice_get xs i ≡ Some it
  pub passes : p it ≡ true
  pub within : i < length xs
  pub among : In it xs

pub position_found : {A : Type 0} (p : A → Bool) (xs : List A) (i : ℕ) → position p xs ≡ Some i → Found p xs i
position_found p [] i e = absurd cc
position_found p (x ∷ xs) i e = by_test (p x) refl (sym (position_cons p x xs) ∙ e) (λ j f. position_found p xs j f)
  where
    by_place : (i : ℕ) (o : Option ℕ) → position p xs ≡ o → option_map (λ j. suc j) o ≡ Some i → ((j : ℕ) → position p xs ≡ Some j → Found p xs j) → Found p (x ∷ xs) i
    by_place i None e f again = absurd cc
    by_place i (Some j) e f again =
        let rest = again j e in
        let same : suc j ≡ i = cc in
        subst (λ k. Found p (x ∷ xs) k) same (record { it = rest.it; at = rest.at; passes = rest.passes; within = omega (arith, rest.within); among = inr rest.among })

    by_test : (b : Bool) → p x ≡ b → cond b (Some 0) (option_map (λ j. suc j) (position p xs)) ≡ Some i → ((j : ℕ) → position p xs ≡ Some j → Found p xs j) → Found p (x ∷ xs) i
    by_test true is e again =
        let same : 0 ≡ i = cc in subst (λ k. Found p (x ∷ xs) k) same (record { it = x; at = refl; passes = is; within = omega arith; among = inl refl })
    by_test false is e again = by_place i (position p xs) refl e again

pub position_any : {A : Type 0} (p : A → Bool) (xs : List A) → list_any p xs ≡ true → (i : ℕ) × (position p xs ≡ Some i)
position_any p [] e = absurd cc
position_any p (x ∷ xs) e = by_test (p x) refl (λ f. position_any p xs f)
  where
    by_test : (b : Bool) → p x ≡ b → (list_any p xs ≡ true → (i : ℕ) × (position p xs ≡ Some i)) → (i : ℕ) × (position p (x ∷ xs) ≡ Some i)
    by_test true is again = (0, position_cons p x xs ∙ ap (λ b. cond b (Some 0) (option_map (λ j. suc j) (position p xs))) is)
    by_test false is again =
        let rest = again (ap (λ b. b || list_any p xs) (sym is) ∙ e) in
        (suc rest.0, position_cons p x xs ∙ ap (λ b. cond b (Some 0) (option_map (λ j. suc j) (position p xs))) is ∙ ap (option_map (λ j. suc j)) rest.1)

pub position_none : {A : Type 0} (p : A → Bool) (xs : List A) → position p xs ≡ None → list_any p xs ≡ false
position_none p xs e = by_test (list_any p xs) refl
  where
    by_test : (b : Bool) → list_any p xs ≡ b → b ≡ false
    by_test true h = let at = position_any p xs h in absurd (let f : None ≡ Some at.0 = sym e ∙ at.1 in cc)
    by_test false h = refl

pub in_filter : {A : Type 0} (p : A → Bool) (xs : List A) (x : A) → In x (filter p xs) → In x xs × (p x ≡ true)
in_filter p [] x h = absurd h
in_filter p (y ∷ xs) x h = by_test (p y) refl h (λ i. in_filter p xs x i)
  where
    by_test : (b : Bool) → p y ≡ b → In x (cond b (y ∷ filter p xs) (filter p xs)) → (In x (filter p xs) → In x xs × (p x ≡ true)) → In x (y ∷ xs) × (p x ≡ true)
    by_test true is (inl e) again = (inl e, ap p e ∙ is)
    by_test true is (inr i) again = let r = again i in (inr r.0, r.1)
    by_test false is i again = let r = again i in (inr r.0, r.1)
