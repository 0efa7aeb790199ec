-- Counts behind the first items of a body, as they are kept.
use Rattle.std.specs.Borrow.{Bor}
use Rattle.std.specs.Prelude.{◌≡◌, ℕ, ◌+◌, if◌then◌else◌, List, [], ◌∷◌, map, Option, Some, None, option_map, unwrap_or, slice_get}
use Rattle.std.specs.BTreeMap.{BTreeMap}
use Rattle.tie_mean.specs.Names.{is_named, table_named, tables, Setting, setting_at}
use Rattle.tie_mean.specs.Setters.{setter, leaf_names, give_setting}
use Rattle.tie_mean.specs.Kept.{kept}
use Rattle.tie_mean.specs.Counts.{Counted, Counts, Seen, counts_of, value_count, counts_behind, seen_behind, body_count, limited}
use Rattle.tie_mean.specs.declared.scope.FunctionCount.{FunctionCount}
use Rattle.tie_mean.specs.declared.scope.CountScope.{CountScope}
use Rattle.tie_grammar.specs.declared.symbol.Leaf.{Leaf}
use Rattle.tie_grammar.specs.declared.tree.Parameter.{Parameter}
use Rattle.tie_grammar.specs.declared.tree.Function.{Function}
use Rattle.tie_grammar.specs.declared.tree.Tree.{Tree}

-- what a call of the last function of this name counts, or the given number
abbrev pub call_in : List FunctionCount → List ℕ → ℕ → ℕ
call_in [] name found = found
call_in (f ∷ fs) name found = call_in fs name (if is_named name f.name.now then f.call else found)

-- how often its argument of a number counts
abbrev pub times_in : List FunctionCount → List ℕ → ℕ → ℕ → ℕ
times_in [] name i found = found
times_in (f ∷ fs) name i found = times_in fs name i (if is_named name f.name.now then unwrap_or (slice_get f.times.items i) 1 else found)

abbrev pub counted_of : Option (Bor Leaf) → Counted
counted_of what = option_map (λ leaf. leaf.now.bytes) what

-- what is seen in this scope
abbrev pub seen_in : CountScope → Seen
seen_in s = seen_behind (table_named s.tree.now) s.tree.now.declarations s.declarations

-- what names count behind k items
abbrev pub names_in : CountScope → ℕ → List ℕ → ℕ
names_in s k = counts_behind (counted_of s.what) (seen_in s) (leaf_names s.inputs.now) s.items.now k

abbrev pub counts_in : CountScope → Counts
counts_in s = counts_of (counted_of s.what) (seen_in s) (names_in s s.behind)

-- the count of a value that is set behind k items, 0 where none is
abbrev pub setting_count : CountScope → ℕ → Option Setting → ℕ
setting_count s k o = give_setting (value_count (counted_of s.what) (seen_in s)) (names_in s k) o 0

-- the count of the value that the item of a number sets
abbrev pub item_count : CountScope → ℕ → ℕ
item_count s k = setting_count s k (setting_at s.items.now k)

-- the kept counts of functions are right
pub record AreFunctions (functions : List FunctionCount) (seen : Seen) : Type 0 where
  pub calls : (name : List ℕ) → call_in functions name 1 ≡ limited (seen.call name)
  pub times : (name : List ℕ) (i : ℕ) → times_in functions name i 1 ≡ limited (seen.times name i)

-- how often the argument of a parameter counts, as it is kept
abbrev pub times_of : Seen → Function → Parameter → ℕ
times_of seen f p = limited (1 + body_count (Some p.name.bytes) seen f)

-- what is kept of one function
pub record IsFunction (count : FunctionCount) (seen : Seen) (f : Function) : Type 0 where
  pub name : count.name.now ≡ f.name
  pub call : count.call ≡ limited (1 + body_count None seen f)
  pub times : count.times.items ≡ map (times_of seen f) f.parameters

-- the names of a text's tables
abbrev pub AreTables : List (Bor Leaf) → Tree → Type 0
AreTables leaves t = leaf_names leaves ≡ map (λ x. x.name.bytes) (tables t)

-- the count of what the item of a number sets, as it is kept
abbrev pub kept_count : CountScope → Option ℕ → Option ℕ
kept_count s at = option_map (λ k. limited (item_count s k)) at

-- these are the counts of what names are last set to by the first k items
abbrev pub AreCounts : CountScope → BTreeMap (Bor (List ℕ)) ℕ → ℕ → Type 0
AreCounts s counts k = (name : List ℕ) → kept counts name ≡ kept_count s (setter s.items.now k name)

-- all that is kept is right
pub record IsRight (s : CountScope) : Type 0 where
  pub functions : AreFunctions s.functions.now (seen_in s)
  pub tables : AreTables s.tables.now s.tree.now
  pub counts : AreCounts s s.counts.now s.behind
