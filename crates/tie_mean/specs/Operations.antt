-- What functions and operations give.
use Rattle.std.specs.Prelude.{ℕ, zero, suc, if◌then◌else◌, List, [], ◌∷◌, length, map, Option, Some, None}
use Rattle.tie_mean.specs.Literals.{literal_value}
use Rattle.tie_mean.specs.Scope.{Widths}
use Rattle.tie_mean.specs.Names.{Declared, is_named, function_names, operation_names, widths_of, tables, behind, last_set, given, parameter_names, function_at, written, read}
use Rattle.tie_mean.specs.Values.{meaning, assigned}
use Rattle.tie_grammar.specs.declared.symbol.Leaf.{Leaf}
use Rattle.tie_grammar.specs.declared.tree.Expr.{Expr}
use Rattle.tie_grammar.specs.declared.tree.Item.{Item}
use Rattle.tie_grammar.specs.declared.tree.Table.{Table}
use Rattle.tie_grammar.specs.declared.tree.Function.{Function}
use Rattle.tie_grammar.specs.declared.tree.Operation.{Operation}
use Rattle.tie_grammar.specs.declared.tree.Decl.{Decl}
use Rattle.tie_grammar.specs.declared.tree.Tree.{Tree}

-- the entries of the first table of a name
abbrev pub entries_in : List Table → List ℕ → List ℕ
entries_in [] name = []
entries_in (x ∷ xs) name = if is_named name x.name then map literal_value x.entries else entries_in xs name

-- what a body sees of the text: the widths of names, the functions and the tables
pub record Seen : Type 0 where
  pub widths : Widths
  pub call : List ℕ → List ℕ → ℕ
  pub table : List ℕ → List ℕ

-- the value of an expression that is assigned to a name
abbrev pub set_value : Seen → (List ℕ → ℕ) → Leaf → Expr → ℕ
set_value seen names name x =
    assigned (record { name = names; call = seen.call; table = seen.table }) (seen.widths.name name.bytes) (meaning seen.widths x)

-- the values of names behind the first k items of a body, whose inputs have values
abbrev pub values_behind : Seen → List (List ℕ) → List ℕ → List Item → ℕ → List ℕ → ℕ
values_behind seen inputs values items k = behind inputs (set_value seen) (given inputs values) items k

-- the value that a name is last set to
abbrev pub last_value : Seen → List (List ℕ) → List ℕ → List Item → List ℕ → ℕ
last_value seen inputs values items name = last_set (set_value seen) (values_behind seen inputs values items) 0 items (length items) name

-- a body with these names, where calls are known
abbrev pub seen_by : Tree → List Declared → (List ℕ → List ℕ → ℕ) → Seen
seen_by t names call = record { widths = widths_of t names; call = call; table = entries_in (tables t) }

-- what a function gives on the values of its parameters: what it sets its name to
abbrev pub function_value : Tree → (List ℕ → List ℕ → ℕ) → Function → List ℕ → ℕ
function_value t call f args = last_value (seen_by t (function_names f) call) (parameter_names f) args f.items f.name.bytes

abbrev pub call_with : Tree → (List ℕ → List ℕ → ℕ) → Option Function → List ℕ → List ℕ → ℕ
call_with t before None name args = before name args
call_with t before (Some f) name args = if is_named name f.name then function_value t before f args else before name args

-- what calls give behind the first k declarations: a function sees those before it
abbrev pub calls_behind : Tree → List Decl → ℕ → List ℕ → List ℕ → ℕ
calls_behind t decls zero name args = 0
calls_behind t decls (suc k) name args = call_with t (calls_behind t decls k) (function_at decls k) name args

-- what an operation sees: all functions, and its own names
abbrev pub operation_seen : Tree → Operation → Seen
operation_seen t o = seen_by t (operation_names t o) (calls_behind t t.declarations (length t.declarations))

-- the values that an operation gives its written operands, on the values of those that it reads, both in order
abbrev pub operation_values : Tree → Operation → List ℕ → List ℕ
operation_values t o reads = map (last_value (operation_seen t o) (read o) reads o.items) (written o)
