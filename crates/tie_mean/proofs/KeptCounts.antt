-- Counts that are kept as they are made.
use Rattle.std.proofs.Common.{◌≡◌, ℕ, ◌+◌, ◌<◌, Bool, true, false, if◌then◌else◌, List, length, get_or, map, sum, add-one, Option, Some, None, refl, ap, sym, ◌∙◌}
use Rattle.std.specs.Option.{unwrap_or}
use Rattle.std.specs.Borrow.{Bor}
use Rattle.std.specs.BTreeMap.{BTreeMap}
use Rattle.tie_mean.specs.Names.{setting, sets, table_named, read, written}
use Rattle.tie_mean.specs.Setters.{setter, leaf_names, give_at}
use Rattle.tie_mean.specs.Kept.{kept}
use Rattle.tie_mean.specs.Counts.{limited, value_count, set_count, seen_behind, operation_count}
use Rattle.tie_mean.specs.CountScope.{counted_of, seen_in, names_in, item_count, setting_count, kept_count, AreCounts}
use Rattle.tie_mean.specs.declared.scope.CountScope.{CountScope}
use Rattle.tie_grammar.specs.declared.tree.Item.{Item}
use Rattle.tie_grammar.specs.declared.tree.Operation.{Operation}
use Rattle.tie_grammar.specs.declared.tree.Tree.{Tree}
use Rattle.tie_mean.proofs.Setting.{last_set_at, setting_read, setter_step}

kept_if : (s : CountScope) (b : Bool) (k : ℕ) (o : Option ℕ) → (if b then Some (limited (item_count s k)) else kept_count s o) ≡ kept_count s (if b then Some k else o)
kept_if s true k o = refl
kept_if s false k o = refl

pub counts_more : (s : CountScope) (counts more : BTreeMap (Bor (List ℕ)) ℕ) (i n : ℕ) (item : Item) → AreCounts s counts i → i < length s.items.now → item ≡ get_or s.items.now i item
    → n ≡ limited (setting_count s i (setting item)) → ((q : List ℕ) → kept more q ≡ (if sets q (setting item) then Some n else kept counts q)) → AreCounts s more (i + 1)
counts_more s counts more i n item so within e here put = λ q.
    let b : Bool = sets q (setting item) in
    let count : n ≡ limited (item_count s i) = here ∙ ap (λ o. limited (setting_count s i o)) (sym (setting_read s.items.now i item within e)) in
    let step : setter s.items.now (i + 1) q ≡ (if b then Some i else setter s.items.now i q) = rw add-one (setter_step s.items.now i q item b within e refl) in
    put q ∙ ap (λ (m : ℕ). if b then Some m else kept counts q) count ∙ ap (λ (o : Option ℕ). if b then Some (limited (item_count s i)) else o) (so q)
    ∙ kept_if s b i (setter s.items.now i q) ∙ ap (kept_count s) (sym step)

given_count : (s : CountScope) (o : Option ℕ) → unwrap_or (kept_count s o) 0 ≡ limited (give_at (value_count (counted_of s.what) (seen_in s)) (names_in s) s.items.now o 0)
given_count s None = refl
given_count s (Some k) = refl

pub last_count_is : (s : CountScope) (name : List ℕ)
    → unwrap_or (kept_count s (setter s.items.now (length s.items.now) name)) 0
    ≡ limited (set_count (counted_of s.what) (seen_in s) (leaf_names s.inputs.now) s.items.now name)
last_count_is s name =
    given_count s (setter s.items.now (length s.items.now) name)
    ∙ ap limited (sym (last_set_at (value_count (counted_of s.what) (seen_in s)) (names_in s) 0 s.items.now (length s.items.now) name))

pub operation_count_is : (t : Tree) (o : Operation) (n : ℕ) (inputs outputs : List (List ℕ)) (items : List Item) → n ≡ length t.declarations → inputs ≡ read o → items ≡ o.items → outputs ≡ written o
    → limited (sum (map (set_count None (seen_behind (table_named t) t.declarations n) inputs items) outputs)) ≡ limited (operation_count t o)
operation_count_is t o n inputs outputs items n_is inputs_are items_are outputs_are =
    let f : ℕ → List (List ℕ) → List Item → List (List ℕ) → ℕ =
    λ m ins is outs. limited (sum (map (set_count None (seen_behind (table_named t) t.declarations m) ins is) outs)) in
    ap (λ m. f m inputs items outputs) n_is ∙ ap (λ ins. f (length t.declarations) ins items outputs) inputs_are
    ∙ ap (λ is. f (length t.declarations) (read o) is outputs) items_are ∙ ap (f (length t.declarations) (read o) o.items) outputs_are
