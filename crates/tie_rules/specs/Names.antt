-- What a text declares, and the names of it.
use Rattle.std.specs.Prelude.{ℕ, Bool, true, false, ◌&&◌, ◌||◌, List, [], Option, Some, None}
use Rattle.std.specs.List.{list_any}
use Rattle.tie_mean.specs.Scope.{Widths}
use Rattle.tie_mean.specs.Names.{is_named, Declared, widths_of, function_names, operation_names, setting, sets}
use Rattle.tie_grammar.specs.declared.symbol.Leaf.{Leaf}
use Rattle.tie_grammar.specs.declared.symbol.Direction.{Direction}
use Rattle.tie_grammar.specs.declared.symbol.Direction.TheVariants as way
use Rattle.tie_grammar.specs.declared.tree.Item.{Item}
use Rattle.tie_grammar.specs.declared.tree.Item.TheVariants as i
use Rattle.tie_grammar.specs.declared.tree.Parameter.{Parameter}
use Rattle.tie_grammar.specs.declared.tree.Argument.{Argument}
use Rattle.tie_grammar.specs.declared.tree.Link.{Link}
use Rattle.tie_grammar.specs.declared.tree.Decl.{Decl}
use Rattle.tie_grammar.specs.declared.tree.Decl.TheVariants as d
use Rattle.tie_grammar.specs.declared.tree.Tree.{Tree}

-- ---- declarations

-- the name that a declaration declares. All declarations share one name space; slots and short names aren't in it.
abbrev pub declared_name : Decl → Option Leaf
declared_name (d.State x) = Some x.name
declared_name (d.Regfile x) = Some x.name
declared_name (d.QueueIn x) = Some x.name
declared_name (d.QueueOut x) = Some x.name
declared_name (d.Table x) = Some x.name
declared_name (d.ImmediateRange x) = Some x.name
declared_name (d.Function x) = Some x.name
declared_name (d.Operation x) = Some x.name
declared_name (d.Schedule x) = Some x.name
declared_name (d.Format x) = Some x.name
declared_name (d.SlotOpcodes x) = None

-- a name is spelled there
abbrev pub names : List ℕ → Option Leaf → Bool
names name None = false
names name (Some leaf) = is_named name leaf

abbrev pub declares : List ℕ → Decl → Bool
declares name decl = names name (declared_name decl)

abbrev pub is_operation : Decl → Bool
is_operation (d.Operation o) = true
is_operation _ = false

abbrev pub declares_operation : List ℕ → Decl → Bool
declares_operation name (d.Operation o) = is_named name o.name
declares_operation name _ = false

abbrev pub declares_function : List ℕ → Decl → Bool
declares_function name (d.Function f) = is_named name f.name
declares_function name _ = false

abbrev pub declares_table : List ℕ → Decl → Bool
declares_table name (d.Table x) = is_named name x.name
declares_table name _ = false

abbrev pub declares_range : List ℕ → Decl → Bool
declares_range name (d.ImmediateRange x) = is_named name x.name
declares_range name _ = false

abbrev pub declares_state : List ℕ → Decl → Bool
declares_state name (d.State x) = is_named name x.name
declares_state name _ = false

abbrev pub declares_queue_in : List ℕ → Decl → Bool
declares_queue_in name (d.QueueIn x) = is_named name x.name
declares_queue_in name _ = false

abbrev pub declares_queue_out : List ℕ → Decl → Bool
declares_queue_out name (d.QueueOut x) = is_named name x.name
declares_queue_out name _ = false

abbrev pub declares_queue : List ℕ → Decl → Bool
declares_queue name (d.QueueIn x) = is_named name x.name
declares_queue name (d.QueueOut x) = is_named name x.name
declares_queue name _ = false

-- what an interface name may be
abbrev pub declares_link : List ℕ → Decl → Bool
declares_link name (d.State x) = is_named name x.name
declares_link name (d.QueueIn x) = is_named name x.name
declares_link name (d.QueueOut x) = is_named name x.name
declares_link name _ = false

-- what the kind of an argument may be, beside `AR`
abbrev pub declares_kind : List ℕ → Decl → Bool
declares_kind name (d.Regfile x) = is_named name x.name
declares_kind name (d.ImmediateRange x) = is_named name x.name
declares_kind name _ = false

-- some declaration of a text is of this sort
abbrev pub has : (Decl → Bool) → Tree → Bool
has test t = list_any test t.declarations

-- a name is among these
abbrev pub listed : List ℕ → List Leaf → Bool
listed name leaves = list_any (is_named name) leaves

-- ---- bodies of functions and operations

abbrev pub body : Decl → List Item
body (d.Function f) = f.items
body (d.Operation o) = o.items
body _ = []

abbrev pub parameters : Decl → List Parameter
parameters (d.Function f) = f.parameters
parameters _ = []

abbrev pub arguments : Decl → List Argument
arguments (d.Operation o) = o.arguments
arguments _ = []

abbrev pub links : Decl → List Link
links (d.Operation o) = o.links
links _ = []

-- the name of a function is what its body assigns
abbrev pub own_name : Decl → Option Leaf
own_name (d.Function f) = Some f.name
own_name _ = None

abbrev pub is_parameter : List ℕ → Parameter → Bool
is_parameter name x = is_named name x.name

abbrev pub is_argument : List ℕ → Argument → Bool
is_argument name x = is_named name x.name

abbrev pub is_link : List ℕ → Link → Bool
is_link name x = is_named name x.name

abbrev pub declares_wire : List ℕ → Item → Bool
declares_wire name (i.Wire r n) = is_named name n
declares_wire name (i.WireSet r n x) = is_named name n
declares_wire name (i.Assign n x) = false

-- an item assigns a name; `wire x = e` is an assignment too
abbrev pub sets_name : List ℕ → Item → Bool
sets_name name item = sets name (setting item)

abbrev pub has_parameter : List ℕ → Decl → Bool
has_parameter name decl = list_any (is_parameter name) (parameters decl)

abbrev pub has_argument : List ℕ → Decl → Bool
has_argument name decl = list_any (is_argument name) (arguments decl)

abbrev pub has_link : List ℕ → Decl → Bool
has_link name decl = list_any (is_link name) (links decl)

abbrev pub has_wire : List ℕ → Decl → Bool
has_wire name decl = list_any (declares_wire name) (body decl)

abbrev pub is_assigned : List ℕ → Decl → Bool
is_assigned name decl = list_any (sets_name name) (body decl)

-- the names that a body sees beside tables and functions: an operation its arguments, interface names and wires,
-- a function its parameters, its wires, and its own name
abbrev pub sees : List ℕ → Decl → Bool
sees name decl = ((has_argument name decl || has_link name decl) || (has_parameter name decl || has_wire name decl)) || names name (own_name decl)

-- those names with their widths
abbrev pub names_seen : Tree → Decl → List Declared
names_seen t (d.Function f) = function_names f
names_seen t (d.Operation o) = operation_names t o
names_seen t _ = []

abbrev pub seen_widths : Tree → Decl → Widths
seen_widths t decl = widths_of t (names_seen t decl)

-- ---- operands

abbrev pub is_in : Direction → Bool
is_in way.In = true
is_in _ = false

abbrev pub is_out : Direction → Bool
is_out way.Out = true
is_out _ = false

abbrev pub argument_is : (Direction → Bool) → List ℕ → Argument → Bool
argument_is test name x = is_named name x.name && test x.direction

abbrev pub link_is : (Direction → Bool) → List ℕ → Link → Bool
link_is test name x = is_named name x.name && test x.direction

-- an operand of this name has such a direction
abbrev pub operand_is : (Direction → Bool) → List ℕ → Decl → Bool
operand_is test name decl = list_any (argument_is test name) (arguments decl) || list_any (link_is test name) (links decl)
