-- Declarations that are counted by keys.
use Rattle.std.specs.Prelude.{ℕ, Bool, false, ◌&&◌, ◌==◌, List, [], Option, Some, None, unwrap_or}
use Rattle.std.specs.List.{count_by}
use Rattle.std.specs.BTreeMap.{BTreeMap, get}
use Rattle.std.specs.Ordering.{nat_cmp}
use Rattle.tie_grammar.specs.declared.tree.Decl.{Decl}
use Rattle.tie_grammar.specs.declared.tree.Decl.TheVariants as d
use Rattle.tie_mean.specs.Sizes.{bounded}
use Rattle.tie_rules.specs.Names.{declared_name, is_operation}
use Rattle.tie_rules.specs.Declarations.{at_name, is_full, limit_of}

abbrev pub count_at : BTreeMap ℕ ℕ → ℕ → ℕ
count_at counts key = unwrap_or (get nat_cmp counts key) 0

abbrev pub count_of : (ℕ → ℕ) → Option ℕ → ℕ
count_of counts None = 0
count_of counts (Some key) = counts key

abbrev pub has_key : ℕ → Option ℕ → Bool
has_key q None = false
has_key q (Some key) = q == key

-- a declaration has this key
abbrev pub is_key : (Decl → Option ℕ) → ℕ → Decl → Bool
is_key key q decl = has_key q (key decl)

abbrev pub at_count : (Decl → Option ℕ) → (ℕ → Decl → List ℕ) → List Decl → Decl → List ℕ
at_count key places before decl = places (count_of (λ q. count_by (is_key key q) before) (key decl)) decl

-- ---- rule 3

abbrev pub sort_number : Decl → Option ℕ
sort_number (d.State x) = Some 0
sort_number (d.Regfile x) = Some 1
sort_number (d.QueueIn x) = Some 2
sort_number (d.QueueOut x) = Some 3
sort_number (d.Table x) = Some 4
sort_number (d.ImmediateRange x) = Some 5
sort_number (d.Function x) = Some 6
sort_number (d.Schedule x) = Some 7
sort_number _ = None

abbrev pub many_of_sort : ℕ → Decl → List ℕ
many_of_sort n (d.Format x) = []
many_of_sort n decl = at_name (declared_name decl) (is_full (limit_of decl) n)

abbrev pub format_width : Decl → Option ℕ
format_width (d.Format x) = Some (bounded x.width)
format_width _ = None

abbrev pub many_of_width : ℕ → Decl → List ℕ
many_of_width n (d.Format x) = at_name (Some x.name) (n == 16)
many_of_width n _ = []

-- ---- rule 4

abbrev pub operation_number : Decl → Option ℕ
operation_number (d.Operation x) = Some 0
operation_number _ = None

abbrev pub many_operations : ℕ → Decl → List ℕ
many_operations n decl = at_name (declared_name decl) (is_operation decl && n == 32)
