-- The names that a function or an operation sees, with their widths, and what a wire stands for behind some items.
use Rattle.std.specs.Prelude.{ℕ, zero, suc, ◌+◌, not, slice_get, Bool, true, false, ◌&&◌, if◌then◌else◌, List, [], ◌∷◌, ◌++◌, map, codes, Option, Some, None}
use Rattle.std.specs.List.{flat_map}
use Rattle.std.specs.Str.{bytes_eq}
use Rattle.tie_mean.specs.Scope.{Widths}
use Rattle.tie_mean.specs.Sizes.{bounded}
use Rattle.tie_grammar.specs.declared.symbol.Leaf.{Leaf}
use Rattle.tie_grammar.specs.declared.symbol.Direction.{Direction}
use Rattle.tie_grammar.specs.declared.symbol.Direction.TheVariants as way
use Rattle.tie_grammar.specs.declared.tree.Range.{Range}
use Rattle.tie_grammar.specs.declared.tree.Expr.{Expr}
use Rattle.tie_grammar.specs.declared.tree.Item.{Item}
use Rattle.tie_grammar.specs.declared.tree.Item.TheVariants as i
use Rattle.tie_grammar.specs.declared.tree.Parameter.{Parameter}
use Rattle.tie_grammar.specs.declared.tree.Argument.{Argument}
use Rattle.tie_grammar.specs.declared.tree.Link.{Link}
use Rattle.tie_grammar.specs.declared.tree.Table.{Table}
use Rattle.tie_grammar.specs.declared.tree.Function.{Function}
use Rattle.tie_grammar.specs.declared.tree.Operation.{Operation}
use Rattle.tie_grammar.specs.declared.tree.Decl.{Decl}
use Rattle.tie_grammar.specs.declared.tree.Decl.TheVariants as d
use Rattle.tie_grammar.specs.declared.tree.Tree.{Tree}

-- the name that a leaf spells
abbrev pub is_named : List ℕ → Leaf → Bool
is_named name leaf = bytes_eq leaf.bytes name

-- a name with its width
pub record Declared : Type 0 where
  pub name : Leaf
  pub width : ℕ

-- the width of the first of this name, 0 where there is none
abbrev pub width_in : List Declared → List ℕ → ℕ
width_in [] name = 0
width_in (x ∷ xs) name = if is_named name x.name then x.width else width_in xs name

abbrev pub is_among : List Declared → List ℕ → Bool
is_among [] name = false
is_among (x ∷ xs) name = if is_named name x.name then true else is_among xs name

-- `[ high : 0 ]` is high + 1 bits, no range is one bit
abbrev pub range_width : Option Range → ℕ
range_width None = 1
range_width (Some r) = bounded r.high + 1

-- ---- of a whole text

abbrev pub function_of : Decl → List Function
function_of (d.Function f) = f ∷ []
function_of _ = []

-- the function that is declared there, where one is
abbrev pub declared_function : Option Decl → Option Function
declared_function (Some (d.Function f)) = Some f
declared_function _ = None

abbrev pub function_at : List Decl → ℕ → Option Function
function_at decls k = declared_function (slice_get decls k)

abbrev pub functions : Tree → List Function
functions t = flat_map function_of t.declarations

abbrev pub table_of : Decl → List Table
table_of (d.Table x) = x ∷ []
table_of _ = []

abbrev pub tables : Tree → List Table
tables t = flat_map table_of t.declarations

abbrev pub function_declared : Function → Declared
function_declared f = record { name = f.name; width = range_width f.range }

abbrev pub table_declared : Table → Declared
table_declared x = record { name = x.name; width = bounded x.width }

abbrev pub table_named : Tree → List ℕ → Bool
table_named t = is_among (map table_declared (tables t))

-- states and queues by their names
abbrev pub link_declared : Decl → List Declared
link_declared (d.State x) = record { name = x.name; width = bounded x.width } ∷ []
link_declared (d.QueueIn x) = record { name = x.name; width = bounded x.width } ∷ []
link_declared (d.QueueOut x) = record { name = x.name; width = bounded x.width } ∷ []
link_declared _ = []

-- register files and immediate ranges, by the width of an operand of this kind
abbrev pub kind_declared : Decl → List Declared
kind_declared (d.Regfile x) = record { name = x.name; width = bounded x.width } ∷ []
kind_declared (d.ImmediateRange x) = record { name = x.name; width = 32 } ∷ []
kind_declared _ = []

-- ---- of a function or an operation

abbrev pub wire_declared : Item → List Declared
wire_declared (i.Wire r n) = record { name = n; width = range_width r } ∷ []
wire_declared (i.WireSet r n x) = record { name = n; width = range_width r } ∷ []
wire_declared (i.Assign n x) = []

abbrev pub wires : List Item → List Declared
wires items = flat_map wire_declared items

abbrev pub parameter_declared : Parameter → Declared
parameter_declared x = record { name = x.name; width = range_width x.range }

-- `AR` is the kind of the address registers, which have 32 bits
abbrev pub kind_width : Tree → Leaf → ℕ
kind_width t kind = if is_named (codes "AR") kind then 32 else width_in (flat_map kind_declared t.declarations) kind.bytes

abbrev pub argument_declared : Tree → Argument → Declared
argument_declared t x = record { name = x.name; width = kind_width t x.kind }

abbrev pub link_width : Tree → Link → Declared
link_width t x = record { name = x.name; width = width_in (flat_map link_declared t.declarations) x.name.bytes }

-- what a function's body names: its parameters, its wires, and itself, which it assigns
abbrev pub function_names : Function → List Declared
function_names f = map parameter_declared f.parameters ++ wires f.items ++ function_declared f ∷ []

-- what an operation's body names: its arguments, its interface names and its wires
abbrev pub operation_names : Tree → Operation → List Declared
operation_names t o = map (argument_declared t) o.arguments ++ map (link_width t) o.links ++ wires o.items

-- the widths of the parameters of the first function of this name
abbrev pub parameters_in : List Function → List ℕ → List ℕ
parameters_in [] name = []
parameters_in (f ∷ fs) name = if is_named name f.name then map (λ x. range_width x.range) f.parameters else parameters_in fs name

-- sizes where these names are seen, beside the functions and tables of the text
abbrev pub widths_of : Tree → List Declared → Widths
widths_of t names = record {
  name = width_in names;
  function = width_in (map function_declared (functions t));
  parameters = parameters_in (functions t);
  table = width_in (map table_declared (tables t));
  is_table = table_named t;
}

-- ---- what assignments give

-- a name and the expression that it is set to
pub record Setting : Type 0 where
  pub name : Leaf
  pub value : Expr

abbrev pub setting : Item → Option Setting
setting (i.Wire r n) = None
setting (i.WireSet r n x) = Some (record { name = n; value = x })
setting (i.Assign n x) = Some (record { name = n; value = x })

-- what the item of a number sets
abbrev pub setting_of : Option Item → Option Setting
setting_of None = None
setting_of (Some item) = setting item

abbrev pub setting_at : List Item → ℕ → Option Setting
setting_at items k = setting_of (slice_get items k)

-- a name is set there
abbrev pub sets : List ℕ → Option Setting → Bool
sets name None = false
sets name (Some s) = is_named name s.name

-- the name is among these
abbrev pub has : List (List ℕ) → List ℕ → Bool
has [] name = false
has (n ∷ ns) name = if bytes_eq n name then true else has ns name

-- a setting changes what its name stands for, unless it is an input: an operand that is read keeps its old value throughout
abbrev pub changes : List (List ℕ) → List ℕ → Setting → Bool
changes inputs name s = is_named name s.name && not (has inputs name)

-- what a name stands for behind an item: what `give` makes of the value that it is set to, or what it stood for before
abbrev pub behind_setting : {A : Type 0} → List (List ℕ) → ((List ℕ → A) → Leaf → Expr → A) → (List ℕ → A) → Option Setting → List ℕ → A
behind_setting inputs give before None name = before name
behind_setting inputs give before (Some s) name = if changes inputs name s then give before s.name s.value else before name

-- what a name stands for behind the first k of some items
abbrev pub behind : {A : Type 0} → List (List ℕ) → ((List ℕ → A) → Leaf → Expr → A) → (List ℕ → A) → List Item → ℕ → List ℕ → A
behind inputs give first items zero name = first name
behind inputs give first items (suc k) name = behind_setting inputs give (behind inputs give first items k) (setting_at items k) name

-- what `give` makes of the value that a name is set to there, or what an earlier item made of it
abbrev pub set_to : {A : Type 0} → ((List ℕ → A) → Leaf → Expr → A) → (List ℕ → A) → Option Setting → List ℕ → A → A
set_to give before None name earlier = earlier
set_to give before (Some s) name earlier = if is_named name s.name then give before s.name s.value else earlier

-- what `give` makes of the value that a name is last set to among the first k of some items, where names stand for `names k` behind k items
abbrev pub last_set : {A : Type 0} → ((List ℕ → A) → Leaf → Expr → A) → (ℕ → List ℕ → A) → A → List Item → ℕ → List ℕ → A
last_set give names none items zero name = none
last_set give names none items (suc k) name = set_to give (names k) (setting_at items k) name (last_set give names none items k name)

-- names that are given values in order: the value of a name, 0 where there is none
abbrev pub given : List (List ℕ) → List ℕ → List ℕ → ℕ
given [] values name = 0
given (n ∷ ns) [] name = 0
given (n ∷ ns) (v ∷ vs) name = if bytes_eq n name then v else given ns vs name

abbrev pub parameter_names : Function → List (List ℕ)
parameter_names f = map (λ x. x.name.bytes) f.parameters

-- ---- operands

abbrev pub is_read : Direction → Bool
is_read way.In = true
is_read way.Out = false
is_read way.Inout = true

abbrev pub is_written : Direction → Bool
is_written way.In = false
is_written way.Out = true
is_written way.Inout = true

-- the written operands, or the read ones
abbrev pub operand_side : Bool → Direction → Bool
operand_side true = is_written
operand_side false = is_read

abbrev pub argument_if : (Direction → Bool) → Argument → List (List ℕ)
argument_if p x = if p x.direction then x.name.bytes ∷ [] else []

abbrev pub link_if : (Direction → Bool) → Link → List (List ℕ)
link_if p x = if p x.direction then x.name.bytes ∷ [] else []

-- the names of the operands that are written, and of those that are read, arguments before interface names
abbrev pub operands_if : (Direction → Bool) → Operation → List (List ℕ)
operands_if p o = flat_map (argument_if p) o.arguments ++ flat_map (link_if p) o.links

abbrev pub written : Operation → List (List ℕ)
written = operands_if is_written

abbrev pub read : Operation → List (List ℕ)
read = operands_if is_read
