-- Expressions that are made of the items of a body, in order.
use Rattle.std.proofs.Common.{◌≡◌, ◌⊎◌, ℕ, zero, suc, ◌+◌, ◌*◌, ◌≤◌, ◌<◌, Bool, true, false, ◌&&◌, not, if◌then◌else◌, IsTrue, List, [], ◌∷◌, ◌++◌, length, length-append, map, get_or, slice_get, nat_le, Option, Some, None, inl, inr, add-one, refl, ap, sym, subst, ◌∙◌, arith}
use Rattle.std.specs.Borrow.{Bor}
use Rattle.std.specs.BTreeMap.{BTreeMap}
use Rattle.std.specs.List.{AllByRecursion, list_all}
use Rattle.std.specs.Option.{is_some, is_none}
use Rattle.std.proofs.lemmas.Bool.{cases_lt, cases_eq}
use Rattle.tie_expr.specs.Tree as typed
use Rattle.tie_expr.specs.declared.node.Node.{Node}
use Rattle.tie_mean.specs.Kept.{kept}
use Rattle.tie_mean.specs.Names.{Setting, setting, setting_at, sets, has}
use Rattle.tie_mean.specs.Setters.{setter, give_setting, give_at}
use Rattle.tie_mean.specs.Counts.{Counts, Counted, count, counts_of, nodes, value_count, replaced_count, lone_name}
use Rattle.tie_mean.proofs.Setting.{setting_read, setter_step, setter_sets, last_set_at}
use Rattle.tie_translate.specs.Translation.{assigned_in}
use Rattle.tie_translate.specs.Bounds.{IsWithin, IsBounded, nodes_of, node_limit, assigned_room}
use Rattle.tie_grammar.specs.declared.tree.Item.{Item}
use Rattle.tie_grammar.specs.declared.tree.Expr.{Expr}
use Rattle.tie_results.specs.Reads.{used, setting_uses, item_uses, used_at, is_among, is_marked, names_read, AreNeeded}
use Rattle.tie_results.specs.Bodies.{Body, widths_of, env_behind, name_counts, setting_count, item_count, known_counts, bounds_of, lacks, made_of, made_at, AreMade, IsMade, IsMadeOf}
use Rattle.tie_results.specs.Plans.{IsPlan, IsFew, IsOne, IsOneOf, ArePresent}
use Rattle.tie_results.proofs.Counted.{count_same}
use Rattle.tie_results.proofs.Placed.{known_input, known_unset, known_made}
use Rattle.tie_results.proofs.Used.{SetterIn, setters_used, setter_low}

pub record IsMaking (b : Body) (marks : List Bool) (made : List (Option Node)) (setters : BTreeMap (Bor (List ℕ)) ℕ) (k : ℕ) : Type 0 where
  pub many : length made ≡ k
  pub last : (q : List ℕ) → kept setters q ≡ setter b.items k q
  pub right : AreMade b made
  pub present : ArePresent b marks made

-- ---- one expression more

made_left : (made : List (Option Node)) (o : Option Node) (k : ℕ) → k < length made → made_at (made ++ o ∷ []) k ≡ made_at made k
made_left [] o k h = absurd (omega (arith, h))
made_left (x ∷ xs) o zero h = refl
made_left (x ∷ xs) o (suc k) h = made_left xs o k (omega (arith, h))

made_last : (made : List (Option Node)) (o : Option Node) → made_at (made ++ o ∷ []) (length made) ≡ o
made_last [] o = refl
made_last (x ∷ xs) o = made_last xs o

made_beyond : (made : List (Option Node)) (k : ℕ) → length made ≤ k → made_at made k ≡ None
made_beyond [] k h = refl
made_beyond (x ∷ xs) zero h = absurd (omega (arith, h))
made_beyond (x ∷ xs) (suc k) h = made_beyond xs k (omega (arith, h))

-- what was made here
abbrev IsHere : Body → ℕ → Option Node → Type 0
IsHere b k o = (e : Node) → o ≡ Some e → IsMadeOf b k (setting_at b.items k) e

made_push : (b : Body) (made : List (Option Node)) (o : Option Node) → AreMade b made → IsHere b (length made) o → AreMade b (made ++ o ∷ [])
made_push b made o so here k e h = by_place (cases_lt k (length made))
  where
    at_end : (cases : (k ≡ length made) ⊎ (k ≡ length made → ⊥)) → length made ≤ k → IsMadeOf b k (setting_at b.items k) e
    at_end (inl same) above =
        let one : o ≡ Some e = sym (made_last made o) ∙ ap (made_at (made ++ o ∷ [])) (sym same) ∙ h in
        subst (λ (n : ℕ). IsMadeOf b n (setting_at b.items n) e) (sym same) (here e one)
    at_end (inr other) above =
        let long : length (made ++ o ∷ []) ≡ length made + 1 = length-append made (o ∷ []) in
        let nothing : None ≡ Some e = sym (made_beyond (made ++ o ∷ []) k (omega (arith, above, other, long))) ∙ h in
        absurd cc

    by_place : (k < length made) ⊎ (length made ≤ k) → IsMadeOf b k (setting_at b.items k) e
    by_place (inl within) = so k e (sym (made_left made o k within) ∙ h)
    by_place (inr beyond) = at_end (cases_eq k (length made)) beyond

present_push : (b : Body) (marks : List Bool) (made : List (Option Node)) (o : Option Node) → ArePresent b marks made
    → (is_marked marks (length made) ≡ true → is_some (setting_at b.items (length made)) ≡ true → is_some o ≡ true) → ArePresent b marks (made ++ o ∷ [])
present_push b marks made o so here k within m s = by_place (cases_lt k (length made))
  where
    by_place : (k < length made) ⊎ (length made ≤ k) → is_some (made_at (made ++ o ∷ []) k) ≡ true
    by_place (inl low) = ap is_some (made_left made o k low) ∙ so k low m s
    by_place (inr beyond) =
        let long : length (made ++ o ∷ []) ≡ length made + 1 = length-append made (o ∷ []) in
        let same : k ≡ length made = omega (arith, within, beyond, long) in
        ap (λ n. is_some (made_at (made ++ o ∷ []) n)) same ∙ ap is_some (made_last made o)
        ∙ here (ap (is_marked marks) (sym same) ∙ m) (ap (λ n. is_some (setting_at b.items n)) (sym same) ∙ s)

-- ---- what was made of a setting, in the bounds of its count

-- at an item all of whose names are known, the known counts are the counts
known_count : (b : Body) (made : List (Option Node)) (k : ℕ) (x : Expr) → AllByRecursion (λ name. name_counts b None k name ≡ known_counts b made k name) (names_read (widths_of b).is_table x)
    → ((name : List ℕ) → b.calls.counts.is_table name ≡ (widths_of b).is_table name) → nodes_of (bounds_of b made k) x ≡ count (counts_of None b.calls.counts (name_counts b None k)) x
known_count b made k x all tables =
    let c : Counts = counts_of None b.calls.counts (name_counts b None k) in
    let same_tables : c.is_table ≡ (widths_of b).is_table = λ i name. tables name i in
    let agree : AllByRecursion (λ name. c.name name ≡ known_counts b made k name) (names_read c.is_table x) =
    subst (λ (t : List ℕ → Bool). AllByRecursion (λ name. name_counts b None k name ≡ known_counts b made k name) (names_read t x)) (sym same_tables) all in
    sym (count_same c (known_counts b made k) x agree)

-- the names that a marked item reads are known
one_known : (b : Body) (marks : List Bool) (made : List (Option Node)) (uses : List ℕ) (name : List ℕ) → ArePresent b marks made
    → ((j : ℕ) → is_among uses j ≡ true → is_marked marks j ≡ true) → SetterIn (setter b.items (length made)) b.inputs uses name
    → name_counts b None (length made) name ≡ known_counts b made (length made) name
one_known b marks made uses name present marked so = by_input (has b.inputs name) refl (setter b.items (length made) name) refl
  where
    by_node : (j : ℕ) (o : Option Node) → made_at made j ≡ o → is_some o ≡ true → has b.inputs name ≡ false → setter b.items (length made) name ≡ Some j → name_counts b None (length made) name ≡ known_counts b made (length made) name
    by_node j None e h free at = absurd cc
    by_node j (Some node) e h free at = sym (known_made b made (length made) j name node free at e)

    some_setting : (o : Option Setting) → sets name o ≡ true → is_some o ≡ true
    some_setting None h = absurd cc
    some_setting (Some s) h = refl

    by_input : (i : Bool) → has b.inputs name ≡ i → (o : Option ℕ) → setter b.items (length made) name ≡ o → name_counts b None (length made) name ≡ known_counts b made (length made) name
    by_input true input o at = sym (known_input b made (length made) name input)
    by_input false free None at = sym (known_unset b made (length made) name free at)
    by_input false free (Some j) at =
        let low = setter_low b.items (length made) name j at in
        let set = some_setting (setting_at b.items j) (setter_sets b.items (length made) name j at) in
        by_node j (made_at made j) refl (present j low (marked j (so free j at)) set) free at

all_known : (b : Body) (marks : List Bool) (made : List (Option Node)) (uses : List ℕ) (names : List (List ℕ)) → ArePresent b marks made
    → ((j : ℕ) → is_among uses j ≡ true → is_marked marks j ≡ true) → AllByRecursion (SetterIn (setter b.items (length made)) b.inputs uses) names
    → AllByRecursion (λ name. name_counts b None (length made) name ≡ known_counts b made (length made) name) names
all_known b marks made uses [] present marked all = tt
all_known b marks made uses (n ∷ ns) present marked all = (one_known b marks made uses n present marked all.0, all_known b marks made uses ns present marked all.1)

-- what is counted are the tables that are seen, and each argument at least once
pub record IsCounted (b : Body) : Type 0 where
  pub same : (name : List ℕ) → b.calls.counts.is_table name ≡ (widths_of b).is_table name
  pub once : (name : List ℕ) (i : ℕ) → 0 < b.calls.counts.times name i

known_setting : (b : Body) (marks : List Bool) (made : List (Option Node)) (s : Setting) → IsCounted b → IsPlan b marks → ArePresent b marks made → is_marked marks (length made) ≡ true
    → setting_at b.items (length made) ≡ Some s → nodes_of (bounds_of b made (length made)) s.value ≡ setting_count b None (length made) (Some s)
known_setting b marks made s tables plan present m is =
    let k = length made in
    let names : List (List ℕ) = names_read (widths_of b).is_table s.value in
    let uses : item_uses (widths_of b).is_table b.inputs b.items k ≡ used (setter b.items k) b.inputs names = ap (setting_uses (widths_of b).is_table b.inputs (setter b.items k)) is in
    let marked : (j : ℕ) → is_among (used (setter b.items k) b.inputs names) j ≡ true → is_marked marks j ≡ true =
    λ j h. plan.closed k j m (ap (λ ks. is_among ks j) uses ∙ h) in
    known_count b made k s.value (all_known b marks made (used (setter b.items k) b.inputs names) names present marked (setters_used (setter b.items k) b.inputs names)) tables.same

pub few_here : (b : Body) (marks : List Bool) (made : List (Option Node)) → IsCounted b → IsPlan b marks → ArePresent b marks made → is_marked marks (length made) ≡ true
    → (o : Option Setting) → setting_at b.items (length made) ≡ o → IsFew (bounds_of b made (length made)) o
few_here b marks made tables plan present m None is = tt
few_here b marks made tables plan present m (Some s) is =
    let nodes = known_setting b marks made s tables plan present m is in
    let small = plan.small (length made) m in
    let count : item_count b None (length made) ≡ setting_count b None (length made) (Some s) = ap (setting_count b None (length made)) is in
    omega (arith, nodes, small, count)

one_here : (b : Body) (marks : List Bool) (made : List (Option Node)) (o : Option Node) → IsCounted b → IsPlan b marks → ArePresent b marks made → is_marked marks (length made) ≡ true
    → (s : Option Setting) → setting_at b.items (length made) ≡ s → IsOneOf b (length made) (bounds_of b made (length made)) s o → (e : Node) → o ≡ Some e → IsMadeOf b (length made) s e
one_here b marks made o tables plan present m None is one e h = absurd cc
one_here b marks made None tables plan present m (Some s) is one e h = absurd one
one_here b marks made (Some f) tables plan present m (Some s) is one e h =
    let same : f ≡ e = cc in
    let nodes = known_setting b marks made s tables plan present m is in
    subst (IsMade b (length made) s) same (record {
      means = one.means;
      bounds = record {
        over = one.bounded.over;
        small = let small = one.bounded.small in omega (arith, small, nodes);
        often = one.bounded.often;
      };
    })

some_here : (b : Body) (k : ℕ) (made : List (Option Node)) (o : Option Node) (s : Option Setting) → IsOneOf b k (bounds_of b made k) s o → is_some s ≡ true → is_some o ≡ true
some_here b k made o None one h = absurd cc
some_here b k made None (Some s) one h = absurd one
some_here b k made (Some e) (Some s) one h = refl

-- what is made of an item: nothing, where it isn't marked
pub record IsMadeHere (b : Body) (marks : List Bool) (made : List (Option Node)) (item : Item) (o : Option Node) : Type 0 where
  pub unmarked : is_marked marks (length made) ≡ false → o ≡ None
  pub marked : is_marked marks (length made) ≡ true → IsOneOf b (length made) (bounds_of b made (length made)) (setting item) o

pub making_more : (b : Body) (marks : List Bool) (made : List (Option Node)) (before after : BTreeMap (Bor (List ℕ)) ℕ) (k : ℕ) (item : Item) (o : Option Node) → IsCounted b → IsPlan b marks
    → IsMaking b marks made before k → k < length b.items → item ≡ get_or b.items k item → IsMadeHere b marks made item o
    → ((q : List ℕ) → kept after q ≡ (if sets q (setting item) then Some k else kept before q)) → IsMaking b marks (made ++ o ∷ []) after (k + 1)
making_more b marks made before after k item o tables plan so within e here put =
    let many = so.many in
    let is : setting_at b.items (length made) ≡ setting item = ap (setting_at b.items) many ∙ setting_read b.items k item within e in
    record {
      many = length-append made (o ∷ []) ∙ omega (arith, many);
      last = λ q.
          let step : setter b.items (k + 1) q ≡ (if sets q (setting item) then Some k else setter b.items k q) = rw add-one (setter_step b.items k q item (sets q (setting item)) within e refl) in
          put q ∙ ap (λ (p : Option ℕ). if sets q (setting item) then Some k else p) (so.last q) ∙ sym step;
      right = made_push b made o so.right (by_mark is (is_marked marks (length made)) refl);
      present = present_push b marks made o so.present (λ m s. some_here b (length made) made o (setting item) (here.marked m) (ap is_some (sym is) ∙ s));
    }
  where
    by_mark : setting_at b.items (length made) ≡ setting item → (m : Bool) → is_marked marks (length made) ≡ m → IsHere b (length made) o
    by_mark is true m f h =
        subst (λ (s : Option Setting). IsMadeOf b (length made) s f) (sym is) (one_here b marks made o tables plan so.present m (setting item) is (here.marked m) f h)
    by_mark is false m f h = let nothing : None ≡ Some f = sym (here.unmarked m) ∙ h in absurd cc
