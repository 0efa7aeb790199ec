-- Marks of what is needed, from the last number down.
use Rattle.std.proofs.Common.{◌≡◌, ◌⊎◌, ℕ, zero, suc, ◌+◌, ◌-◌, ◌≤◌, ◌<◌, Bool, true, false, ◌||◌, List, [], ◌∷◌, ◌++◌, length, map, take, get_or, Vec, Global, inl, inr, refl, ap, sym, subst, ◌∙◌, arith}
use Rattle.std.specs.List.{list_any}
use Rattle.std.specs.Bool.{nat_eq}
use Rattle.std.proofs.lemmas.Bool.{cases_eq, cases_Bool, or_cases, or_left, or_right}
use Rattle.std.proofs.lemmas.Bool.Decides.{nat_tests}
use Rattle.std.proofs.lemmas.Grind.{common_steps}
use Rattle.std.proofs.Math.ListN.{set}
use Rattle.tie_results.proofs.Declared.{taken_of}
use Rattle.tie_results.specs.Reads.{is_among, is_marked, used_at, UseEarlier, AreNeeded}

-- as far as number k from the last one down
pub record AreMarked (uses : List (List ℕ)) (last : List ℕ) (marks : List Bool) (k : ℕ) : Type 0 where
  pub many : length marks ≡ length uses
  pub within : k ≤ length uses
  pub last_ones : (i : ℕ) → is_among last i ≡ true → is_marked marks i ≡ true
  pub closed : (i j : ℕ) → k ≤ i → is_marked marks i ≡ true → is_among (used_at uses i) j ≡ true → is_marked marks j ≡ true
  pub reached : (p : ℕ → Bool) → ((i : ℕ) → is_among last i ≡ true → p i ≡ true) → ((i j : ℕ) → p i ≡ true → is_among (used_at uses i) j ≡ true → p j ≡ true)
      → (i : ℕ) → is_marked marks i ≡ true → p i ≡ true

none_used : (uses : List (List ℕ)) (i : ℕ) → length uses ≤ i → used_at uses i ≡ []
none_used uses i h = grind (arith, common_steps)

-- where the last ones alone are marked
pub first_marks : (uses : List (List ℕ)) (last : List ℕ) (before marks : List Bool) (n : ℕ) → length marks ≡ length uses → n ≡ length uses → ((i : ℕ) → is_marked before i ≡ false)
    → ((i : ℕ) → is_marked marks i ≡ (is_marked before i || is_among last i)) → AreMarked uses last marks n
first_marks uses last before marks n many end none marked = record {
  many = many;
  within = omega (arith, end);
  last_ones = λ i h. marked i ∙ or_right (is_marked before i) (is_among last i) h;
  closed = λ i j above m u.
      let empty : used_at uses i ≡ [] = none_used uses i (omega (arith, end)) in
      let nothing : false ≡ true = sym (ap (λ ks. is_among ks j) empty) ∙ u in
      absurd cc;
  reached = λ p starts goes i m. from_either p starts i (or_cases (is_marked before i) (is_among last i) (sym (marked i) ∙ m));
}
  where
    from_either : (p : ℕ → Bool) → ((i : ℕ) → is_among last i ≡ true → p i ≡ true) → (i : ℕ) → (is_marked before i ≡ true) ⊎ (is_among last i ≡ true) → p i ≡ true
    from_either p starts i (inl m) = let no : false ≡ true = sym (none i) ∙ m in absurd cc
    from_either p starts i (inr l) = starts i l

-- one number down that isn't marked
pub unmarked_down : (uses : List (List ℕ)) (last : List ℕ) (marks : List Bool) (k n : ℕ) → AreMarked uses last marks k → n + 1 ≡ k → is_marked marks n ≡ false → AreMarked uses last marks n
unmarked_down uses last marks k n so e off = record {
  many = so.many;
  within = let w = so.within in omega (arith, w, e);
  last_ones = so.last_ones;
  closed = λ i j above m u. at_or_above i j above m u (cases_eq i n);
  reached = so.reached;
}
  where
    at_or_above : (i j : ℕ) → n ≤ i → is_marked marks i ≡ true → is_among (used_at uses i) j ≡ true → (i ≡ n) ⊎ (i ≡ n → ⊥) → is_marked marks j ≡ true
    at_or_above i j above m u (inl same) = let no : false ≡ true = sym off ∙ ap (is_marked marks) (sym same) ∙ m in absurd cc
    at_or_above i j above m u (inr other) = so.closed i j (omega (arith, above, other, e)) m u

-- one number down that is marked
pub marked_down : (uses : List (List ℕ)) (last : List ℕ) (marks after : List Bool) (k n : ℕ) → UseEarlier uses → AreMarked uses last marks k → n + 1 ≡ k → is_marked marks n ≡ true → length after ≡ length marks
    → ((i : ℕ) → is_marked after i ≡ (is_marked marks i || is_among (used_at uses n) i)) → AreMarked uses last after n
marked_down uses last marks after k n earlier so e on many marked = record {
  many = many ∙ so.many;
  within = let w = so.within in omega (arith, w, e);
  last_ones = λ i h. stays i (so.last_ones i h);
  closed = λ i j above m u. at_or_above i j above m u (cases_eq i n);
  reached = λ p starts goes i m. from_either p starts goes i (or_cases (is_marked marks i) (is_among (used_at uses n) i) (sym (marked i) ∙ m));
}
  where
    stays : (i : ℕ) → is_marked marks i ≡ true → is_marked after i ≡ true
    stays i h = marked i ∙ or_left (is_marked marks i) (is_among (used_at uses n) i) h

    was_marked : (i : ℕ) → n < i → (is_marked marks i ≡ true) ⊎ (is_among (used_at uses n) i ≡ true) → is_marked marks i ≡ true
    was_marked i above (inl h) = h
    was_marked i above (inr u) = let low = earlier n i u in absurd (omega (arith, above, low))

    at_or_above : (i j : ℕ) → n ≤ i → is_marked after i ≡ true → is_among (used_at uses i) j ≡ true → (i ≡ n) ⊎ (i ≡ n → ⊥) → is_marked after j ≡ true
    at_or_above i j above m u (inl same) =
        let here : is_among (used_at uses n) j ≡ true = ap (λ v. is_among (used_at uses v) j) (sym same) ∙ u in
        marked j ∙ or_right (is_marked marks j) (is_among (used_at uses n) j) here
    at_or_above i j above m u (inr other) =
        let was = was_marked i (omega (arith, above, other)) (or_cases (is_marked marks i) (is_among (used_at uses n) i) (sym (marked i) ∙ m)) in
        stays j (so.closed i j (omega (arith, above, other, e)) was u)

    from_either : (p : ℕ → Bool) → ((i : ℕ) → is_among last i ≡ true → p i ≡ true) → ((i j : ℕ) → p i ≡ true → is_among (used_at uses i) j ≡ true → p j ≡ true)
        → (i : ℕ) → (is_marked marks i ≡ true) ⊎ (is_among (used_at uses n) i ≡ true) → p i ≡ true
    from_either p starts goes i (inl m) = so.reached p starts goes i m
    from_either p starts goes i (inr u) = goes n i (so.reached p starts goes n on) u

pub all_marked : (uses : List (List ℕ)) (last : List ℕ) (marks : List Bool) (k : ℕ) → AreMarked uses last marks k → k ≤ 0 → AreNeeded uses last marks
all_marked uses last marks k so none = record {
  many = so.many;
  last_ones = so.last_ones;
  closed = λ i j m u. so.closed i j (omega (arith, none)) m u;
  reached = so.reached;
}

-- ---- marks that are set

same_number : (j k : ℕ) → nat_eq j k ≡ true → j ≡ k
same_number j k h = grind (arith, nat_tests)

number_same : (k : ℕ) → nat_eq k k ≡ true
number_same k = grind (arith, nat_tests)

other_number : (j k : ℕ) → (j ≡ k → ⊥) → nat_eq j k ≡ false
other_number j k h = grind (arith, nat_tests)

pub among_at : (ks : List ℕ) (i n : ℕ) → i < length ks → n ≡ get_or ks i n → is_among ks n ≡ true
among_at [] i n h e = absurd (omega (arith, h))
among_at (k ∷ ks) zero n h e = or_left (nat_eq k n) (is_among ks n) (ap (λ v. nat_eq v n) (sym e) ∙ number_same n)
among_at (k ∷ ks) (suc i) n h e = or_right (nat_eq k n) (is_among ks n) (among_at ks i n (omega (arith, h)) e)

pub among_push : (ks : List ℕ) (n k : ℕ) → is_among (ks ++ n ∷ []) k ≡ (is_among ks k || nat_eq n k)
among_push [] n k = or_none (nat_eq n k)
  where
    or_none : (b : Bool) → (b || false) ≡ b
    or_none true = refl
    or_none false = refl
among_push (j ∷ ks) n k = ap (λ b. nat_eq j k || b) (among_push ks n k) ∙ or_assoc (nat_eq j k) (is_among ks k) (nat_eq n k)
  where
    or_assoc : (a b c : Bool) → (a || (b || c)) ≡ ((a || b) || c)
    or_assoc true b c = refl
    or_assoc false b c = refl

set_same : (marks : List Bool) (n : ℕ) → n < length marks → is_marked (set marks n true) n ≡ true
set_same marks n h = grind (arith, common_steps)

set_other : (marks : List Bool) (n k : ℕ) → (n ≡ k → ⊥) → is_marked (set marks n true) k ≡ is_marked marks k
set_other marks n k h = grind (arith, common_steps)

or_true : (b : Bool) → (b || true) ≡ true
or_true true = refl
or_true false = refl

or_false : (b : Bool) → (b || false) ≡ b
or_false true = refl
or_false false = refl

or_again : (a b c : Bool) → (a || (b || c)) ≡ ((a || b) || c)
or_again true b c = refl
or_again false b c = refl

any_default : (ks : List ℕ) (i : ℕ) → i < length ks → get_or ks i 0 ≡ get_or ks i (get_or ks i 0)
any_default ks i h = grind (arith, common_steps)

pub among_there : (ks : List ℕ) (i : ℕ) → i < length ks → is_among ks (get_or ks i 0) ≡ true
among_there ks i h = among_at ks i (get_or ks i 0) h (any_default ks i h)

-- one mark more
pub mark_more : (first marks : List Bool) (ks : List ℕ) (i : ℕ) → i < length ks → get_or ks i 0 < length marks → ((k : ℕ) → is_marked marks k ≡ (is_marked first k || is_among (take i ks) k))
    → (k : ℕ) → is_marked (set marks (get_or ks i 0) true) k ≡ (is_marked first k || is_among (take (i + 1) ks) k)
mark_more first marks ks i h within so k =
    let n : ℕ = get_or ks i 0 in
    one (cases_eq n k)
    ∙ ap (λ b. b || nat_eq n k) (so k) ∙ sym (or_again (is_marked first k) (is_among (take i ks) k) (nat_eq n k))
    ∙ ap (λ b. is_marked first k || b) (sym (among_push (take i ks) n k) ∙ ap (λ v. is_among v k) (taken_of ks i n h (any_default ks i h)))
  where
    one : (get_or ks i 0 ≡ k) ⊎ (get_or ks i 0 ≡ k → ⊥) → is_marked (set marks (get_or ks i 0) true) k ≡ (is_marked marks k || nat_eq (get_or ks i 0) k)
    one (inl same) =
        ap (is_marked (set marks (get_or ks i 0) true)) (sym same) ∙ set_same marks (get_or ks i 0) within
        ∙ sym (ap (λ b. is_marked marks k || b) (ap (λ v. nat_eq (get_or ks i 0) v) (sym same) ∙ number_same (get_or ks i 0)) ∙ or_true (is_marked marks k))
    one (inr other) = set_other marks (get_or ks i 0) k other ∙ sym (ap (λ b. is_marked marks k || b) (other_number (get_or ks i 0) k other) ∙ or_false (is_marked marks k))

pub marked_within : (marks : List Bool) (k : ℕ) → is_marked marks k ≡ true → k < length marks
marked_within [] k h = absurd cc
marked_within (m ∷ ms) zero h = omega arith
marked_within (m ∷ ms) (suc k) h = let low = marked_within ms k h in omega (arith, low)

pub marked_read : (marks : List Bool) (n : ℕ) (b : Bool) → n < length marks → b ≡ get_or marks n b → b ≡ true → is_marked marks n ≡ true
marked_read [] n b h e t = absurd (omega (arith, h))
marked_read (m ∷ ms) zero b h e t = sym e ∙ t
marked_read (m ∷ ms) (suc n) b h e t = marked_read ms n b (omega (arith, h)) e t

-- the numbers that are kept at a place
pub rows_at : (rows : List (Vec ℕ Global)) (i : ℕ) (v : Vec ℕ Global) → i < length rows → v ≡ get_or rows i v → used_at (map (λ ks. ks.items) rows) i ≡ v.items
rows_at [] i v h e = absurd (omega (arith, h))
rows_at (r ∷ rs) zero v h e = ap (λ (w : Vec ℕ Global). w.items) (sym e)
rows_at (r ∷ rs) (suc i) v h e = rows_at rs i v (omega (arith, h)) e
