-- What names stand for, and what they count, behind some items of a body.
use Rattle.std.proofs.Common.{◌≡◌, ℕ, zero, suc, ◌+◌, ◌*◌, ◌%◌, ◌^◌, ◌≤◌, ◌<◌, Bool, true, false, ◌&&◌, not, if◌then◌else◌, List, [], ◌∷◌, map, length, get_or, Option, Some, None, slice_get, inl, inr, refl, ap, sym, subst, ◌∙◌, arith, rules}
use Rattle.std.specs.Option.{option_map, is_some, is_none}
use Rattle.std.specs.Str.{bytes_eq}
use Rattle.std.specs.List.{All, count_by}
use Rattle.std.specs.Bool.{nat_eq}
use Rattle.std.proofs.lemmas.Bool.{cases_eq}
use Rattle.std.proofs.lemmas.List.Elements.{All-cons, All-nil, All-same}
use Rattle.tie_expr.specs.Word.{Word}
use Rattle.tie_expr.specs.Meaning.{Meaning as Typed, number_in, input_meaning, constant_meaning}
use Rattle.tie_expr.specs.Tree as typed
use Rattle.tie_expr.specs.Tree.{Input}
use Rattle.tie_expr.specs.Size.{node_weight}
use Rattle.tie_expr.specs.Substitute.{IsOver}
use Rattle.tie_expr.specs.declared.node.Node.{Node}
use Rattle.tie_mean.specs.Names.{has, given, Setting, setting_at, sets, is_named}
use Rattle.tie_mean.specs.Setters.{setter, give_setting, give_at}
use Rattle.tie_mean.specs.Counts.{Counted, nodes, lone_name, value_count, replaced_count}
use Rattle.tie_mean.specs.Operations.{set_value}
use Rattle.tie_mean.proofs.Setting.{behind_kept, behind_set, setter_sets}
use Rattle.tie_translate.specs.Translation.{name_typed, assigned_in}
use Rattle.tie_translate.specs.Bounds.{Bounds, IsWithin, IsNameBounded, occurrences, name_room, node_limit, node_size}
use Rattle.tie_results.specs.Bodies.{Body, widths_of, seen_of, input_number, input_values, input_widths, input_name, inputs_of, names_behind, env_behind, name_counts, setting_count, item_count, known_counts, bounds_of, lacks, made_at, AreMade, IsMade, IsMadeOf}
use Rattle.tie_results.proofs.Weighted.{at_most_one, no_read}
use Rattle.tie_results.proofs.Inputs.{At, at_number, has_number, given_none, bytes_same, same_bytes}

-- ---- inputs

input_has : (b : Body) (name : List ℕ) (i : ℕ) → input_number b.inputs name ≡ Some i → has b.inputs name ≡ true
input_has b name i e = has_number b.inputs name ∙ ap is_some e

input_value : (b : Body) (k : ℕ) (name : List ℕ) (i : ℕ) (words : List Word) → input_number b.inputs name ≡ Some i
    → number_in (slice_get words i) % 2 ^ b.name name ≡ names_behind b words k name
input_value b k name i words e =
    let at = at_number b.name b.inputs name i e in
    sym (behind_kept b.inputs (set_value (seen_of b)) (given b.inputs (inputs_of b words)) b.items k name (input_has b name i e) ∙ at.value words)

pub input_means : (b : Body) (k : ℕ) (name : List ℕ) (i w : ℕ) (m : Typed) → input_number b.inputs name ≡ Some i → w ≡ b.name name → m ≡ input_meaning i w
    → m ≡ name_typed (widths_of b) (env_behind b k) name
input_means b k name i w m e width is =
    is ∙ ap (λ (v : ℕ). input_meaning i v) width ∙ (λ j. record { width = b.name name; at = λ words. input_value b k name i words e j })

input_lone : (b : Body) (what : Counted) (k : ℕ) (name : List ℕ) → has b.inputs name ≡ true → name_counts b what k name ≡ lone_name what name
input_lone b what k name h = behind_kept b.inputs (replaced_count what b.calls.counts) (lone_name what) b.items k name h

pub known_input : (b : Body) (made : List (Option Node)) (k : ℕ) (name : List ℕ) → has b.inputs name ≡ true → known_counts b made k name ≡ name_counts b None k name
known_input b made k name h = ap (λ v. if not v && lacks made (setter b.items k name) then 5000 else name_counts b None k name) h

one_read : (b : Body) (k : ℕ) (name : List ℕ) (i w j : ℕ) → input_number b.inputs name ≡ Some i → count_by (λ (x : Input). nat_eq x.index j) (record { index = i; width = w } ∷ []) ≤ name_counts b (Some (input_name b j)) k name
one_read b k name i w j e = elim (cases_eq i j) [
  | inl same ↦
      let at = at_number b.name b.inputs name i e in
      let called : input_name b j ≡ name = ap (input_name b) (sym same) ∙ at.called in
      let counts : name_counts b (Some (input_name b j)) k name ≡ 1 =
      input_lone b (Some (input_name b j)) k name (input_has b name i e) ∙ ap (λ n. lone_name (Some n) name) called ∙ ap (λ v. if v then 1 else 0) (bytes_same name) in
      let least : count_by (λ (x : Input). nat_eq x.index j) (record { index = i; width = w } ∷ []) ≤ 1 = at_most_one i w j in
      omega (arith, counts, least)
  | inr differs ↦ let none : count_by (λ (x : Input). nat_eq x.index j) (record { index = i; width = w } ∷ []) ≡ 0 = no_read i w j differs in omega (arith, none)
]

pub input_bounded : (b : Body) (made : List (Option Node)) (k : ℕ) (name : List ℕ) (i w : ℕ) (e : Node) → input_number b.inputs name ≡ Some i → w ≡ b.name name
    → typed.inputs e ≡ record { index = i; width = w } ∷ [] → typed.size e ≡ node_weight → IsNameBounded (bounds_of b made k) name_room name e
input_bounded b made k name i w e number width inputs size =
    let at = at_number b.name b.inputs name i number in
    let input : has b.inputs name ≡ true = input_has b name i number in
    let one : known_counts b made k name ≡ 1 = known_input b made k name input ∙ input_lone b None k name input in
    record {
      over = subst (IsOver (input_widths b)) (sym inputs)
          (All-cons (λ (x : Input). slice_get (input_widths b) x.index ≡ Some x.width) (record { index = i; width = w }) [] (at.width ∙ ap (λ (v : ℕ). Some v) (sym width)) (All-nil (λ (x : Input). slice_get (input_widths b) x.index ≡ Some x.width)));
      small = omega (arith, size, one);
      often = λ j. subst (λ (xs : List Input). count_by (λ (x : Input). nat_eq x.index j) xs ≤ name_counts b (Some (input_name b j)) k name) (sym inputs) (one_read b k name i w j number);
    }

-- ---- names that were never set

unset_value : (b : Body) (k : ℕ) (name : List ℕ) (words : List Word) → has b.inputs name ≡ false → setter b.items k name ≡ None → names_behind b words k name ≡ 0
unset_value b k name words free unset =
    behind_set b.inputs (set_value (seen_of b)) (given b.inputs (inputs_of b words)) b.items k name free
    ∙ ap (λ o. give_at (set_value (seen_of b)) (names_behind b words) b.items o (given b.inputs (inputs_of b words) name)) unset
    ∙ given_none b.inputs (inputs_of b words) name free

pub unset_means : (b : Body) (k : ℕ) (name : List ℕ) (w : ℕ) (m : Typed) → has b.inputs name ≡ false → setter b.items k name ≡ None → w ≡ b.name name
    → m ≡ constant_meaning (record { width = w; value = 0 % 2 ^ w }) → m ≡ name_typed (widths_of b) (env_behind b k) name
unset_means b k name w m free unset width is =
    let zero_is : 0 % 2 ^ w ≡ 0 = search (rules, arith) in
    is ∙ ap (λ (v : ℕ). constant_meaning (record { width = w; value = v })) zero_is ∙ ap (λ (v : ℕ). constant_meaning (record { width = v; value = 0 })) width
    ∙ (λ j. record { width = b.name name; at = λ words. sym (unset_value b k name words free unset) j })

unset_lone : (b : Body) (what : Counted) (k : ℕ) (name : List ℕ) → has b.inputs name ≡ false → setter b.items k name ≡ None → name_counts b what k name ≡ lone_name what name
unset_lone b what k name free unset =
    behind_set b.inputs (replaced_count what b.calls.counts) (lone_name what) b.items k name free
    ∙ ap (λ o. give_at (replaced_count what b.calls.counts) (name_counts b what) b.items o (lone_name what name)) unset

pub known_unset : (b : Body) (made : List (Option Node)) (k : ℕ) (name : List ℕ) → has b.inputs name ≡ false → setter b.items k name ≡ None → known_counts b made k name ≡ name_counts b None k name
known_unset b made k name free unset =
    ap (λ v. if not v && lacks made (setter b.items k name) then 5000 else name_counts b None k name) free
    ∙ ap (λ o. if lacks made o then 5000 else name_counts b None k name) unset

pub unset_bounded : (b : Body) (made : List (Option Node)) (k : ℕ) (name : List ℕ) (e : Node) → has b.inputs name ≡ false → setter b.items k name ≡ None
    → typed.inputs e ≡ [] → typed.size e ≡ node_weight → IsNameBounded (bounds_of b made k) name_room name e
unset_bounded b made k name e free unset inputs size =
    let one : known_counts b made k name ≡ 1 = known_unset b made k name free unset ∙ unset_lone b None k name free unset in
    record {
      over = subst (IsOver (input_widths b)) (sym inputs) (All-nil (λ (x : Input). slice_get (input_widths b) x.index ≡ Some x.width));
      small = omega (arith, size, one);
      often = λ j. let none : occurrences j e ≡ 0 = ap (count_by (λ (x : Input). nat_eq x.index j)) inputs in omega (arith, none);
    }

-- ---- names that were set

set_here : (b : Body) (k j : ℕ) (name : List ℕ) (words : List Word) (s : Setting) → has b.inputs name ≡ false → setter b.items k name ≡ Some j → setting_at b.items j ≡ Some s
    → set_value (seen_of b) (names_behind b words j) s.name s.value ≡ names_behind b words k name
set_here b k j name words s free e is =
    sym (behind_set b.inputs (set_value (seen_of b)) (given b.inputs (inputs_of b words)) b.items k name free
    ∙ ap (λ o. give_at (set_value (seen_of b)) (names_behind b words) b.items o (given b.inputs (inputs_of b words) name)) e
    ∙ ap (λ o. give_setting (set_value (seen_of b)) (names_behind b words j) o (given b.inputs (inputs_of b words) name)) is)

set_named : (b : Body) (k j : ℕ) (name : List ℕ) (s : Setting) → setter b.items k name ≡ Some j → setting_at b.items j ≡ Some s → s.name.bytes ≡ name
set_named b k j name s e is = same_bytes s.name.bytes name (ap (sets name) (sym is) ∙ setter_sets b.items k name j e)

set_means : (b : Body) (k j : ℕ) (name : List ℕ) (s : Setting) (m : Typed) → has b.inputs name ≡ false → setter b.items k name ≡ Some j → setting_at b.items j ≡ Some s
    → m ≡ assigned_in (widths_of b) (env_behind b j) (b.name s.name.bytes) s.value → m ≡ name_typed (widths_of b) (env_behind b k) name
set_means b k j name s m free e is means =
    means ∙ (λ i. record { width = b.name (set_named b k j name s e is i); at = λ words. set_here b k j name words s free e is i })

pub set_counts : (b : Body) (what : Counted) (k j : ℕ) (name : List ℕ) (s : Setting) → has b.inputs name ≡ false → setter b.items k name ≡ Some j → setting_at b.items j ≡ Some s
    → name_counts b what k name ≡ nodes what 1 + setting_count b what j (Some s)
set_counts b what k j name s free e is =
    behind_set b.inputs (replaced_count what b.calls.counts) (lone_name what) b.items k name free
    ∙ ap (λ o. give_at (replaced_count what b.calls.counts) (name_counts b what) b.items o (lone_name what name)) e
    ∙ ap (λ o. give_setting (replaced_count what b.calls.counts) (name_counts b what j) o (lone_name what name)) is

pub known_made : (b : Body) (made : List (Option Node)) (k j : ℕ) (name : List ℕ) (e : Node) → has b.inputs name ≡ false → setter b.items k name ≡ Some j → made_at made j ≡ Some e
    → known_counts b made k name ≡ name_counts b None k name
known_made b made k j name e free at is =
    ap (λ v. if not v && lacks made (setter b.items k name) then 5000 else name_counts b None k name) free
    ∙ ap (λ o. if lacks made o then 5000 else name_counts b None k name) at
    ∙ ap (λ o. if is_none o then 5000 else name_counts b None k name) is

-- a name counts too much where nothing was made
pub none_made : (b : Body) (made : List (Option Node)) (k j : ℕ) (name : List ℕ) → has b.inputs name ≡ false → setter b.items k name ≡ Some j → made_at made j ≡ None
    → known_counts b made k name ≤ node_limit → ⊥
none_made b made k j name free at is few =
    let many : known_counts b made k name ≡ 5000 =
    ap (λ v. if not v && lacks made (setter b.items k name) then 5000 else name_counts b None k name) free
    ∙ ap (λ o. if lacks made o then 5000 else name_counts b None k name) at
    ∙ ap (λ o. if is_none o then 5000 else name_counts b None k name) is in
    absurd (omega (arith, many, few))

-- a copy of what was made of an item
pub record Stands (b : Body) (made : List (Option Node)) (k : ℕ) (name : List ℕ) (e : Node) : Type 0 where
  pub means : typed.meaning e ≡ name_typed (widths_of b) (env_behind b k) name
  pub bounded : IsNameBounded (bounds_of b made k) name_room name e

stands_for : (b : Body) (made : List (Option Node)) (k j : ℕ) (name : List ℕ) (e : Node) → has b.inputs name ≡ false → setter b.items k name ≡ Some j → made_at made j ≡ Some e
    → (o : Option Setting) → setting_at b.items j ≡ o → IsMadeOf b j o e → Stands b made k name e
stands_for b made k j name e free at is None at_j none = absurd none
stands_for b made k j name e free at is (Some s) at_j so =
    let count : known_counts b made k name ≡ 1 + setting_count b None j (Some s) = known_made b made k j name e free at is ∙ set_counts b None k j name s free at at_j in
    record {
      means = set_means b k j name s (typed.meaning e) free at at_j so.means;
      bounded = record {
        over = so.bounds.over;
        small = let small = so.bounds.small in omega (arith, count, small);
        often = λ i.
            let often = so.bounds.often i in
            let reads = set_counts b (Some (input_name b i)) k j name s free at at_j in
            omega (arith, often, reads);
      };
    }

pub made_stands : (b : Body) (made : List (Option Node)) (k j : ℕ) (name : List ℕ) (e : Node) → has b.inputs name ≡ false → setter b.items k name ≡ Some j → AreMade b made → made_at made j ≡ Some e
    → Stands b made k name e
made_stands b made k j name e free at so is = stands_for b made k j name e free at is (setting_at b.items j) refl (so j e is)

pub copy_bounded : (bounds : Bounds) (name : List ℕ) (e f : Node) → IsNameBounded bounds name_room name e → typed.inputs f ≡ typed.inputs e → typed.size f ≡ typed.size e → IsNameBounded bounds name_room name f
copy_bounded bounds name e f so inputs size = record {
  over = subst (IsOver bounds.widths) (sym inputs) so.over;
  small = let small = so.small in omega (arith, small, size);
  often = λ j. let same : occurrences j f ≡ occurrences j e = ap (count_by (λ (x : Input). nat_eq x.index j)) inputs in let often = so.often j in omega (arith, same, often);
}
