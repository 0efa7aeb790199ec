-- The uses of the first items of a body.
use Rattle.std.proofs.Common.{◌≡◌, ◌⊎◌, ℕ, zero, suc, ◌+◌, ◌≤◌, ◌<◌, Bool, true, false, ◌||◌, if◌then◌else◌, List, [], ◌∷◌, ◌++◌, length, length-append, map, get_or, Option, Some, None, inl, inr, add-one, refl, ap, sym, subst, ◌∙◌, arith}
use Rattle.std.specs.Borrow.{Bor}
use Rattle.std.specs.BTreeMap.{BTreeMap}
use Rattle.std.specs.List.{AllByRecursion, flat_map, list_any}
use Rattle.std.specs.Option.{option_to_list}
use Rattle.std.specs.Bool.{nat_eq}
use Rattle.std.proofs.lemmas.Bool.{cases_lt, or_cases, or_left, or_right}
use Rattle.std.proofs.lemmas.Bool.Decides.{nat_tests}
use Rattle.std.proofs.lemmas.Grind.{common_steps}
use borrow.Author.Count.{below_more}
use Rattle.tie_mean.specs.Kept.{kept}
use Rattle.tie_mean.specs.Names.{Setting, setting, setting_at, sets, has}
use Rattle.tie_mean.specs.Setters.{setter, setter_or}
use Rattle.tie_mean.proofs.Setting.{setting_read, setter_step}
use Rattle.tie_grammar.specs.declared.tree.Item.{Item}
use Rattle.tie_results.specs.Reads.{used_by, used, setting_uses, item_uses, used_at, is_among, names_read, UseEarlier}

pub record AreUsesTo (is_table : List ℕ → Bool) (inputs : List (List ℕ)) (items : List Item) (uses : List (List ℕ)) (setters : BTreeMap (Bor (List ℕ)) ℕ) (k : ℕ) : Type 0 where
  pub many : length uses ≡ k
  pub each : (i : ℕ) → i < k → used_at uses i ≡ item_uses is_table inputs items i
  pub last : (q : List ℕ) → kept setters q ≡ setter items k q

append_left : (xs : List (List ℕ)) (x : List ℕ) (k : ℕ) → k < length xs → used_at (xs ++ x ∷ []) k ≡ used_at xs k
append_left xs x k h = grind (arith, common_steps)

append_last : (xs : List (List ℕ)) (x : List ℕ) (k : ℕ) → length xs ≡ k → used_at (xs ++ x ∷ []) k ≡ x
append_last xs x k h = grind (arith, common_steps)

-- one item more
pub uses_more : (is_table : List ℕ → Bool) (inputs : List (List ℕ)) (items : List Item) (uses : List (List ℕ)) (before after : BTreeMap (Bor (List ℕ)) ℕ) (k : ℕ) (item : Item) (numbers : List ℕ)
    → AreUsesTo is_table inputs items uses before k → k < length items → item ≡ get_or items k item → numbers ≡ setting_uses is_table inputs (kept before) (setting item)
    → ((q : List ℕ) → kept after q ≡ (if sets q (setting item) then Some k else kept before q)) → AreUsesTo is_table inputs items (uses ++ numbers ∷ []) after (k + 1)
uses_more is_table inputs items uses before after k item numbers so within e here put =
    let many = so.many in
    let same_setters : kept before ≡ setter items k = λ i q. so.last q i in
    let read : numbers ≡ item_uses is_table inputs items k =
    here ∙ ap (λ (f : List ℕ → Option ℕ). setting_uses is_table inputs f (setting item)) same_setters ∙ ap (setting_uses is_table inputs (setter items k)) (sym (setting_read items k item within e)) in
    record {
      many = length-append uses (numbers ∷ []) ∙ omega (arith, many);
      each = below_more (λ i. used_at (uses ++ numbers ∷ []) i ≡ item_uses is_table inputs items i) k
          (λ i h. append_left uses numbers i (omega (arith, many, h)) ∙ so.each i h)
          (append_last uses numbers k many ∙ read);
      last = λ q.
          let step : setter items (k + 1) q ≡ (if sets q (setting item) then Some k else setter items k q) = rw add-one (setter_step items k q item (sets q (setting item)) within e refl) in
          put q ∙ ap (λ (o : Option ℕ). if sets q (setting item) then Some k else o) (so.last q) ∙ sym step;
    }

-- ---- a setter is earlier

setter_or_low : (o : Option Setting) (k : ℕ) (name : List ℕ) (before : Option ℕ) (j : ℕ) → ((i : ℕ) → before ≡ Some i → i < k) → setter_or o k name before ≡ Some j → j < suc k
setter_or_low None k name before j low e = let h = low j e in omega (arith, h)
setter_or_low (Some s) k name before j low e =
    elim (sets name (Some s)) as (λ b. (if b then Some k else before) ≡ Some j → j < suc k) [
      | true ↦ λ h. let same : k ≡ j = cc in omega (arith, same)
      | false ↦ λ h. let l = low j h in omega (arith, l)
    ] e

pub setter_low : (items : List Item) (k : ℕ) (name : List ℕ) (j : ℕ) → setter items k name ≡ Some j → j < k
setter_low items zero name j e = absurd cc
setter_low items (suc k) name j e = setter_or_low (setting_at items k) k name (setter items k name) j (λ i h. setter_low items k name i h) e

-- ---- what is among uses

among_append : (xs ys : List ℕ) (k : ℕ) → is_among (xs ++ ys) k ≡ (is_among xs k || is_among ys k)
among_append [] ys k = refl
among_append (x ∷ xs) ys k = ap (λ b. nat_eq x k || b) (among_append xs ys k) ∙ or_assoc (nat_eq x k) (is_among xs k) (is_among ys k)
  where
    or_assoc : (a b c : Bool) → (a || (b || c)) ≡ ((a || b) || c)
    or_assoc true b c = refl
    or_assoc false b c = refl

same_number : (j k : ℕ) → nat_eq j k ≡ true → j ≡ k
same_number j k h = grind (arith, nat_tests)

number_same : (k : ℕ) → nat_eq k k ≡ true
number_same k = grind (arith, nat_tests)

-- a name that is read has this setter
pub record Reads (Q : List ℕ → Type 0) (setter : List ℕ → Option ℕ) (inputs : List (List ℕ)) (j : ℕ) : Type 0 where
  pub name : List ℕ
  pub here : Q name
  pub free : has inputs name ≡ false
  pub at : setter name ≡ Some j

in_one : (o : Option ℕ) (j : ℕ) → is_among (option_to_list o) j ≡ true → o ≡ Some j
in_one None j h = absurd cc
in_one (Some i) j h = one (or_cases (nat_eq i j) false h)
  where
    one : (nat_eq i j ≡ true) ⊎ (false ≡ true) → Some i ≡ Some j
    one (inl e) = ap Some (same_number i j e)
    one (inr e) = absurd cc

used_here : (Q : List ℕ → Type 0) (f : List ℕ → Option ℕ) (inputs : List (List ℕ)) (n : List ℕ) (j : ℕ) → Q n → (b : Bool) → has inputs n ≡ b → is_among (used_by f inputs n) j ≡ true → Reads Q f inputs j
used_here Q f inputs n j q true is h =
    let nothing : false ≡ true = sym (ap (λ b. is_among (if b then [] else option_to_list (f n)) j) is) ∙ h in absurd cc
used_here Q f inputs n j q false is h =
    let listed : is_among (option_to_list (f n)) j ≡ true = sym (ap (λ b. is_among (if b then [] else option_to_list (f n)) j) is) ∙ h in
    record { name = n; here = q; free = is; at = in_one (f n) j listed }

pub used_reads : (Q : List ℕ → Type 0) (f : List ℕ → Option ℕ) (inputs : List (List ℕ)) (names : List (List ℕ)) (j : ℕ) → AllByRecursion Q names → is_among (used f inputs names) j ≡ true → Reads Q f inputs j
used_reads Q f inputs [] j all h = absurd cc
used_reads Q f inputs (n ∷ ns) j all h = either (or_cases (is_among (used_by f inputs n) j) (is_among (used f inputs ns) j) (sym (among_append (used_by f inputs n) (used f inputs ns) j) ∙ h)) (λ k. used_reads Q f inputs ns j all.1 k)
  where
    either : (is_among (used_by f inputs n) j ≡ true) ⊎ (is_among (used f inputs ns) j ≡ true) → (is_among (used f inputs ns) j ≡ true → Reads Q f inputs j) → Reads Q f inputs j
    either (inl k) later = used_here Q f inputs n j all.0 (has inputs n) refl k
    either (inr k) later = later k

-- the setter of a name that is read is among the uses
abbrev pub SetterIn : (List ℕ → Option ℕ) → List (List ℕ) → List ℕ → List ℕ → Type 0
SetterIn f inputs uses n = has inputs n ≡ false → (j : ℕ) → f n ≡ Some j → is_among uses j ≡ true

one_used : (f : List ℕ → Option ℕ) (inputs : List (List ℕ)) (n : List ℕ) → SetterIn f inputs (used_by f inputs n) n
one_used f inputs n free j e =
    ap (λ b. is_among (if b then [] else option_to_list (f n)) j) free ∙ ap (λ o. is_among (option_to_list o) j) e ∙ or_left (nat_eq j j) false (number_same j)

used_more : (f : List ℕ → Option ℕ) (inputs : List (List ℕ)) (names : List (List ℕ)) (uses : List ℕ) → ((j : ℕ) → is_among (used f inputs names) j ≡ true → is_among uses j ≡ true)
    → AllByRecursion (SetterIn f inputs uses) names
used_more f inputs [] uses h = tt
used_more f inputs (n ∷ ns) uses h = (
  λ free j e. h j (among_append (used_by f inputs n) (used f inputs ns) j ∙ or_left (is_among (used_by f inputs n) j) (is_among (used f inputs ns) j) (one_used f inputs n free j e)),
  used_more f inputs ns uses (λ j k. h j (among_append (used_by f inputs n) (used f inputs ns) j ∙ or_right (is_among (used_by f inputs n) j) (is_among (used f inputs ns) j) k)),
)

pub setters_used : (f : List ℕ → Option ℕ) (inputs : List (List ℕ)) (names : List (List ℕ)) → AllByRecursion (SetterIn f inputs (used f inputs names)) names
setters_used f inputs names = used_more f inputs names (used f inputs names) (λ j h. h)

always : (names : List (List ℕ)) → AllByRecursion (λ n. Unit {0}) names
always [] = tt
always (n ∷ ns) = (tt, always ns)

earlier_of : (is_table : List ℕ → Bool) (inputs : List (List ℕ)) (items : List Item) (k j : ℕ) (o : Option Setting) → is_among (setting_uses is_table inputs (setter items k) o) j ≡ true → j < k
earlier_of is_table inputs items k j None h = absurd cc
earlier_of is_table inputs items k j (Some s) h =
    let r = used_reads (λ n. Unit {0}) (setter items k) inputs (names_read is_table s.value) j (always (names_read is_table s.value)) h in
    setter_low items k r.name j r.at

none_used : (uses : List (List ℕ)) (i : ℕ) → length uses ≤ i → used_at uses i ≡ []
none_used uses i h = grind (arith, common_steps)

pub uses_earlier : (is_table : List ℕ → Bool) (inputs : List (List ℕ)) (items : List Item) (uses : List (List ℕ)) → length uses ≡ length items
    → ((k : ℕ) → k < length items → used_at uses k ≡ item_uses is_table inputs items k) → UseEarlier uses
uses_earlier is_table inputs items uses many are k j h = by_place (cases_lt k (length items))
  where
    by_place : (k < length items) ⊎ (length items ≤ k) → j < k
    by_place (inl within) = earlier_of is_table inputs items k j (setting_at items k) (sym (ap (λ ks. is_among ks j) (are k within)) ∙ h)
    by_place (inr beyond) = let nothing : false ≡ true = sym (ap (λ ks. is_among ks j) (none_used uses k (omega (arith, many, beyond)))) ∙ h in absurd cc
