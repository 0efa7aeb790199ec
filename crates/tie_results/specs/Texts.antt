-- The functions and tables of a text, and what is found among them by a name.
use Rattle.std.specs.Prelude.{◌≡◌, ℕ, ◌+◌, if◌then◌else◌, List, [], ◌∷◌, ◌++◌, map, Option, Some, None, option_map, unwrap_or}
use Rattle.std.specs.Borrow.{Bor}
use Rattle.tie_mean.specs.Literals.{literal_value}
use Rattle.tie_mean.specs.Sizes.{bounded, limited}
use Rattle.tie_mean.specs.Names.{is_named, Declared, range_width, functions, tables}
use Rattle.tie_grammar.specs.declared.symbol.Leaf.{Leaf}
use Rattle.tie_grammar.specs.declared.tree.Table.{Table}
use Rattle.tie_grammar.specs.declared.tree.Function.{Function}
use Rattle.tie_grammar.specs.declared.tree.Tree.{Tree}
use Rattle.tie_results.specs.declared.text.Text.{Text}

abbrev pub functions_in : Text → List Function
functions_in x = map (λ f. f.now) x.functions.items

abbrev pub tables_in : Text → List Table
tables_in x = map (λ f. f.now) x.tables.items

-- the functions and tables of this text
pub record IsTextOf (t : Tree) (x : Text) : Type 0 where
  pub functions : functions_in x ≡ functions t
  pub tables : tables_in x ≡ tables t

-- the first of a name
abbrev pub first_function : List Function → List ℕ → Option Function
first_function [] name = None
first_function (f ∷ fs) name = if is_named name f.name then Some f else first_function fs name

abbrev pub first_table : List Table → List ℕ → Option Table
first_table [] name = None
first_table (x ∷ xs) name = if is_named name x.name then Some x else first_table xs name

-- the width of what a function gives
abbrev pub function_width : Option Function → ℕ
function_width o = unwrap_or (option_map (λ f. range_width f.range) o) 0

abbrev pub parameter_widths : Option Function → List ℕ
parameter_widths None = []
parameter_widths (Some f) = map (λ x. range_width x.range) f.parameters

abbrev pub table_width : Option Table → ℕ
table_width o = unwrap_or (option_map (λ x. bounded x.width) o) 0

abbrev pub table_entries : Option Table → List ℕ
table_entries None = []
table_entries (Some x) = map literal_value x.entries

-- ---- names with their widths

-- a kept name and width
abbrev pub shown : Bor Leaf × ℕ → Declared
shown x = record { name = x.0.now; width = x.1 }

-- widths beyond the limit aren't told apart
abbrev pub limited_declared : Declared → Declared
limited_declared x = record { name = x.name; width = limited x.width }

-- the width of the first of a name, where there is one
abbrev pub first_width : List Declared → List ℕ → Option ℕ
first_width [] name = None
first_width (x ∷ xs) name = if is_named name x.name then Some x.width else first_width xs name
