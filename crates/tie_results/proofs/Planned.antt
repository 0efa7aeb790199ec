-- The plan of a body: the items that its results need have few nodes.
use Rattle.std.proofs.Common.{◌≡◌, ◌⊎◌, ℕ, zero, suc, ◌+◌, ◌*◌, ◌≤◌, ◌<◌, Bool, true, false, ◌||◌, List, [], ◌∷◌, ◌++◌, length, map, nat_le, Option, Some, None, inl, inr, refl, ap, sym, subst, ◌∙◌, arith}
use Rattle.std.specs.Borrow.{Bor}
use Rattle.std.specs.BTreeMap.{BTreeMap}
use Rattle.std.specs.List.{AllByRecursion, list_all}
use Rattle.std.specs.Option.{is_some}
use Rattle.std.specs.Bool.{nat_eq}
use Rattle.std.proofs.lemmas.Bool.{cases_lt, or_cases, or_right, and_parts, and_from, leb-true, le-leb}
use Rattle.std.proofs.lemmas.Bool.Decides.{nat_tests}
use Rattle.std.proofs.lemmas.Grind.{common_steps}
use Rattle.std.proofs.lemmas.List.{length-map}
use Rattle.tie_expr.specs.declared.node.Node.{Node}
use Rattle.tie_mean.specs.Kept.{kept}
use Rattle.tie_mean.specs.Names.{Setting, setting_at, sets, has}
use Rattle.tie_mean.specs.Setters.{setter, give_setting, give_at}
use Rattle.tie_mean.specs.Counts.{Counts, count, counts_of, value_count}
use Rattle.tie_mean.proofs.Setting.{setter_sets, last_set_at}
use Rattle.tie_translate.specs.Bounds.{node_limit}
use Rattle.tie_grammar.specs.declared.tree.Item.{Item}
use Rattle.tie_results.specs.Reads.{used, setting_uses, item_uses, used_at, is_among, is_marked, names_read, UseEarlier, AreNeeded}
use Rattle.tie_results.specs.Bodies.{Body, widths_of, name_counts, setting_count, item_count, last_count, made_at}
use Rattle.tie_results.specs.Plans.{AreUses, IsPlan, ArePresent, is_there, is_ready}
use Rattle.tie_results.specs.declared.uses.Uses.{Uses}
use Rattle.tie_results.proofs.Counted.{names_fewer}
use Rattle.tie_results.proofs.Placed.{set_counts}
use Rattle.tie_results.proofs.Marks.{marked_within}
use Rattle.tie_results.proofs.Used.{Reads, used_reads, uses_earlier, setter_low}
use Rattle.tie_results.proofs.Making.{IsCounted}

abbrev pub rows : Uses → List (List ℕ)
rows u = map (λ ks. ks.items) u.items.items

rows_many : (is_table : List ℕ → Bool) (inputs : List (List ℕ)) (items : List Item) (u : Uses) → AreUses is_table inputs items u → length (rows u) ≡ length items
rows_many is_table inputs items u so = length-map u.items.items (λ ks. ks.items) ∙ so.many

pub rows_earlier : (is_table : List ℕ → Bool) (inputs : List (List ℕ)) (items : List Item) (u : Uses) → AreUses is_table inputs items u → UseEarlier (rows u)
rows_earlier is_table inputs items u so = uses_earlier is_table inputs items (rows u) (rows_many is_table inputs items u so) so.uses

-- ---- the last setters of some names

same_number : (j k : ℕ) → nat_eq j k ≡ true → j ≡ k
same_number j k h = grind (arith, nat_tests)

number_same : (k : ℕ) → nat_eq k k ≡ true
number_same k = grind (arith, nat_tests)

pub last_reads : (Q : List ℕ → Type 0) (f : List ℕ → Option ℕ) (numbers : List ℕ) (names : List (List ℕ)) (k : ℕ) → map Some numbers ≡ map f names → AllByRecursion Q names → is_among numbers k ≡ true → Reads Q f [] k
last_reads Q f [] names k e all h = absurd cc
last_reads Q f (j ∷ js) [] k e all h = absurd cc
last_reads Q f (j ∷ js) (n ∷ ns) k e all h =
    let first : Some j ≡ f n = cc in
    let rest : map Some js ≡ map f ns = cc in
    either first (or_cases (nat_eq j k) (is_among js k) h) (λ l. last_reads Q f js ns k rest all.1 l)
  where
    either : Some j ≡ f n → (nat_eq j k ≡ true) ⊎ (is_among js k ≡ true) → (is_among js k ≡ true → Reads Q f [] k) → Reads Q f [] k
    either first (inl e) later = record { name = n; here = all.0; free = refl; at = sym first ∙ ap Some (same_number j k e) }
    either first (inr l) later = later l

always : (names : List (List ℕ)) → AllByRecursion (λ n. Unit {0}) names
always [] = tt
always (n ∷ ns) = (tt, always ns)

pub last_low : (items : List Item) (setters : BTreeMap (Bor (List ℕ)) ℕ) (numbers : List ℕ) (names : List (List ℕ)) → ((q : List ℕ) → kept setters q ≡ setter items (length items) q)
    → map Some numbers ≡ map (kept setters) names → (k : ℕ) → is_among numbers k ≡ true → k < length items
last_low items setters numbers names so e k h =
    let r = last_reads (λ n. Unit {0}) (kept setters) numbers names k e (always names) h in
    setter_low items (length items) r.name k (sym (so r.name) ∙ r.at)

-- ---- few nodes

few_names : (b : Body) (names : List (List ℕ)) → list_all (λ name. nat_le (last_count b name None) node_limit) names ≡ true → AllByRecursion (λ name. last_count b name None ≤ node_limit) names
few_names b [] h = tt
few_names b (n ∷ ns) h =
    let both = and_parts (nat_le (last_count b n None) node_limit) (list_all (λ name. nat_le (last_count b name None) node_limit) ns) h in
    (leb-true (last_count b n None) node_limit both.0, few_names b ns both.1)

last_item : (b : Body) (name : List ℕ) (k : ℕ) → setter b.items (length b.items) name ≡ Some k → last_count b name None ≡ item_count b None k
last_item b name k e =
    last_set_at (value_count None b.calls.counts) (name_counts b None) 0 b.items (length b.items) name
    ∙ ap (λ o. give_at (value_count None b.calls.counts) (name_counts b None) b.items o 0) e

fewer_there : (b : Body) (i j : ℕ) (n : ℕ) (r : Reads (λ name. name_counts b None i name ≤ n) (setter b.items i) b.inputs j) → (o : Option Setting) → setting_at b.items j ≡ o → item_count b None j ≤ n
fewer_there b i j n r None is =
    let set : sets r.name None ≡ true = ap (sets r.name) (sym is) ∙ setter_sets b.items i r.name j r.at in absurd cc
fewer_there b i j n r (Some s) is =
    let counts = set_counts b None i j r.name s r.free r.at is in
    let here = r.here in
    let item : item_count b None j ≡ setting_count b None j (Some s) = ap (setting_count b None j) is in
    omega (arith, counts, here, item)

fewer_used : (b : Body) (i j : ℕ) → IsCounted b → (o : Option Setting) → setting_at b.items i ≡ o → is_among (setting_uses (widths_of b).is_table b.inputs (setter b.items i) o) j ≡ true → item_count b None j ≤ item_count b None i
fewer_used b i j counted None is h = absurd cc
fewer_used b i j counted (Some s) is h =
    let c : Counts = counts_of None b.calls.counts (name_counts b None i) in
    let item : item_count b None i ≡ count c s.value = ap (setting_count b None i) is in
    let same_tables : c.is_table ≡ (widths_of b).is_table = λ v name. counted.same name v in
    let all : AllByRecursion (λ name. name_counts b None i name ≤ count c s.value) (names_read (widths_of b).is_table s.value) =
    subst (λ (t : List ℕ → Bool). AllByRecursion (λ name. name_counts b None i name ≤ count c s.value) (names_read t s.value)) same_tables (names_fewer c counted.once s.value) in
    let r = used_reads (λ name. name_counts b None i name ≤ count c s.value) (setter b.items i) b.inputs (names_read (widths_of b).is_table s.value) j all h in
    let there = fewer_there b i j (count c s.value) r (setting_at b.items j) refl in
    omega (arith, item, there)

none_used : (uses : List (List ℕ)) (i : ℕ) → length uses ≤ i → used_at uses i ≡ []
none_used uses i h = grind (arith, common_steps)

pub plan_of : (b : Body) (u : Uses) (last : List ℕ) (marks : List Bool) (names : List (List ℕ)) → IsCounted b → AreUses (widths_of b).is_table b.inputs b.items u → AreNeeded (rows u) last marks
    → map Some last ≡ map (kept u.setters) names → list_all (λ name. nat_le (last_count b name None) node_limit) names ≡ true → IsPlan b marks
plan_of b u last marks names counted uses needed lasts few = record {
  many = needed.many ∙ rows_many (widths_of b).is_table b.inputs b.items u uses;
  closed = λ k j m h.
      let low = marked_within marks k m in
      let many = needed.many in
      let rows_are = rows_many (widths_of b).is_table b.inputs b.items u uses in
      needed.closed k j m (ap (λ ks. is_among ks j) (uses.uses k (omega (arith, low, many, rows_are))) ∙ h);
  small = λ k m. leb-true (item_count b None k) node_limit (needed.reached (λ i. nat_le (item_count b None i) node_limit) starts goes k m);
}
  where
    starts : (k : ℕ) → is_among last k ≡ true → nat_le (item_count b None k) node_limit ≡ true
    starts k h =
        let r = last_reads (λ name. last_count b name None ≤ node_limit) (kept u.setters) last names k lasts (few_names b names few) h in
        let here = r.here in
        let item = last_item b r.name k (sym (uses.setters r.name) ∙ r.at) in
        le-leb (item_count b None k) node_limit (omega (arith, here, item))

    by_place : (i j : ℕ) → item_count b None i ≤ node_limit → is_among (used_at (rows u) i) j ≡ true → (i < length b.items) ⊎ (length b.items ≤ i) → item_count b None j ≤ node_limit
    by_place i j small h (inl within) =
        let fewer = fewer_used b i j counted (setting_at b.items i) refl (sym (ap (λ ks. is_among ks j) (uses.uses i within)) ∙ h) in
        omega (arith, fewer, small)
    by_place i j small h (inr beyond) =
        let rows_are = rows_many (widths_of b).is_table b.inputs b.items u uses in
        let nothing : false ≡ true = sym (ap (λ ks. is_among ks j) (none_used (rows u) i (omega (arith, beyond, rows_are)))) ∙ h in
        absurd cc

    goes : (i j : ℕ) → nat_le (item_count b None i) node_limit ≡ true → is_among (used_at (rows u) i) j ≡ true → nat_le (item_count b None j) node_limit ≡ true
    goes i j small h = le-leb (item_count b None j) node_limit (by_place i j (leb-true (item_count b None i) node_limit small) h (cases_lt i (length b.items)))

-- ---- the items that set the results are marked, and made

all_ready : (marks : List Bool) (f : List ℕ → Option ℕ) (numbers : List ℕ) (names : List (List ℕ)) → map Some numbers ≡ map f names → ((k : ℕ) → is_among numbers k ≡ true → is_marked marks k ≡ true)
    → list_all (λ name. is_ready marks (f name)) names ≡ true
all_ready marks f [] [] e so = refl
all_ready marks f [] (n ∷ ns) e so = absurd cc
all_ready marks f (j ∷ js) [] e so = absurd cc
all_ready marks f (j ∷ js) (n ∷ ns) e so =
    let first : Some j ≡ f n = cc in
    let rest : map Some js ≡ map f ns = cc in
    and_from (is_ready marks (f n)) (list_all (λ name. is_ready marks (f name)) ns)
    (ap (is_ready marks) (sym first) ∙ so j (or_same j))
    (all_ready marks f js ns rest (λ k h. so k (or_later k h)))
  where
    or_same : (k : ℕ) → is_among (k ∷ js) k ≡ true
    or_same k = ap (λ b. b || is_among js k) (number_same k)

    or_later : (k : ℕ) → is_among js k ≡ true → is_among (j ∷ js) k ≡ true
    or_later k h = or_right (nat_eq j k) (is_among js k) h

pub outputs_ready : (items : List Item) (u : Uses) (last : List ℕ) (marks : List Bool) (names : List (List ℕ)) → ((q : List ℕ) → kept u.setters q ≡ setter items (length items) q)
    → AreNeeded (rows u) last marks → map Some last ≡ map (kept u.setters) names → list_all (λ name. is_ready marks (setter items (length items) name)) names ≡ true
outputs_ready items u last marks names so needed lasts =
    let same : kept u.setters ≡ setter items (length items) = λ i q. so q i in
    subst (λ (f : List ℕ → Option ℕ). list_all (λ name. is_ready marks (f name)) names ≡ true) same (all_ready marks (kept u.setters) last names lasts needed.last_ones)

one_there : (b : Body) (marks : List Bool) (made : List (Option Node)) (name : List ℕ) → ArePresent b marks made → length made ≡ length b.items → (o : Option ℕ) → setter b.items (length b.items) name ≡ o
    → is_ready marks o ≡ true → is_there made o ≡ true
one_there b marks made name present many None at h = absurd cc
one_there b marks made name present many (Some k) at h =
    let low = setter_low b.items (length b.items) name k at in
    present k (omega (arith, low, many)) h (some_setting (setting_at b.items k) (setter_sets b.items (length b.items) name k at))
  where
    some_setting : (o : Option Setting) → sets name o ≡ true → is_some o ≡ true
    some_setting None h = absurd cc
    some_setting (Some s) h = refl

all_there : (b : Body) (marks : List Bool) (made : List (Option Node)) (names : List (List ℕ)) → ArePresent b marks made → length made ≡ length b.items
    → list_all (λ name. is_ready marks (setter b.items (length b.items) name)) names ≡ true → list_all (λ name. is_there made (setter b.items (length b.items) name)) names ≡ true
all_there b marks made [] present many h = refl
all_there b marks made (n ∷ ns) present many h =
    let both = and_parts (is_ready marks (setter b.items (length b.items) n)) (list_all (λ name. is_ready marks (setter b.items (length b.items) name)) ns) h in
    and_from (is_there made (setter b.items (length b.items) n)) (list_all (λ name. is_there made (setter b.items (length b.items) name)) ns)
    (one_there b marks made n present many (setter b.items (length b.items) n) refl both.0)
    (all_there b marks made ns present many both.1)

pub outputs_there : (b : Body) (u : Uses) (marks : List Bool) (made : List (Option Node)) (names : List (List ℕ)) → ((q : List ℕ) → kept u.setters q ≡ setter b.items (length b.items) q) → ArePresent b marks made
    → length made ≡ length b.items → list_all (λ name. is_ready marks (setter b.items (length b.items) name)) names ≡ true → list_all (λ name. is_there made (kept u.setters name)) names ≡ true
outputs_there b u marks made names so present many ready =
    let same : setter b.items (length b.items) ≡ kept u.setters = λ i q. sym (so q) i in
    subst (λ (f : List ℕ → Option ℕ). list_all (λ name. is_there made (f name)) names ≡ true) same (all_there b marks made names present many ready)
