-- Rules 15 to 25 and 31: the bodies of functions and operations.
use Rattle.std.specs.Prelude.{ℕ, ◌+◌, ◌^◌, Bool, true, false, ◌&&◌, ◌||◌, not, ◌==◌, nat_lt, nat_le, max, List, [], ◌++◌, length, codes, Option, Some, None, if◌then◌else◌, slice_get}
use Rattle.std.specs.List.{flat_map, list_any}
use Rattle.tie_mean.specs.Scope.{Widths}
use Rattle.tie_mean.specs.Sizes.{bounded, limited}
use Rattle.tie_mean.specs.Values.{size}
use Rattle.tie_mean.specs.Names.{is_named, is_read, is_written}
use Rattle.tie_mean.specs.Counts.{operation_count}
use Rattle.tie_grammar.specs.declared.symbol.Leaf.{Leaf}
use Rattle.tie_grammar.specs.declared.symbol.Direction.{Direction}
use Rattle.tie_grammar.specs.declared.symbol.TieFunction.{TieFunction}
use Rattle.tie_grammar.specs.declared.symbol.TieFunction.TheVariants as tie
use Rattle.tie_grammar.specs.declared.tree.Literal.{Literal}
use Rattle.tie_grammar.specs.declared.tree.Literal.TheVariants as l
use Rattle.tie_grammar.specs.declared.tree.Item.{Item}
use Rattle.tie_grammar.specs.declared.tree.Item.TheVariants as i
use Rattle.tie_grammar.specs.declared.tree.Parameter.{Parameter}
use Rattle.tie_grammar.specs.declared.tree.Argument.{Argument}
use Rattle.tie_grammar.specs.declared.tree.Link.{Link}
use Rattle.tie_grammar.specs.declared.tree.ScheduleItem.{ScheduleItem}
use Rattle.tie_grammar.specs.declared.tree.ScheduleItem.TheVariants as si
use Rattle.tie_grammar.specs.declared.tree.Decl.{Decl}
use Rattle.tie_grammar.specs.declared.tree.Decl.TheVariants as d
use Rattle.tie_grammar.specs.declared.tree.Tree.{Tree}
use Rattle.tie_grammar.specs.declared.tree.Expr.{Expr, out-Expr}
use Rattle.tie_grammar.specs.declared.tree.Expr.TheOpen.{Expr-F}
use Rattle.tie_grammar.specs.declared.tree.Expr.TheFolds.{fold-Expr}
use Rattle.tie_rules.specs.Least.{when, behind}
use Rattle.tie_rules.specs.Names.{declared_name, names, declares_operation, declares_function, declares_table, declares_range, declares_queue_in, declares_queue_out, declares_link, declares_kind, has, listed, body, parameters, arguments, links, own_name, is_parameter, is_argument, is_link, declares_wire, sets_name, has_parameter, has_argument, has_link, has_wire, is_assigned, sees, seen_widths, is_in, is_out, operand_is}
use Rattle.tie_rules.specs.Declarations.{in_item, in_body}

-- ---- 15, LocalDoubled: an argument, interface name, parameter or wire equals another of its operation or function, or, but for
-- interface names, a declared name: the later of the two in the text

abbrev pub clash : Leaf → Option Leaf → List ℕ
clash local None = []
clash local (Some leaf) = when (is_named local.bytes leaf) (max leaf.place local.place)

abbrev pub clash_at : Leaf → Decl → List ℕ
clash_at local decl = clash local (declared_name decl)

abbrev pub declared_clash : Tree → Leaf → List ℕ
declared_clash t local = flat_map (clash_at local) t.declarations

abbrev pub parameter_doubled : Tree → List Parameter → Parameter → List ℕ
parameter_doubled t before x = when (list_any (is_parameter x.name.bytes) before) x.name.place ++ declared_clash t x.name

abbrev pub argument_doubled : Tree → List Argument → Argument → List ℕ
argument_doubled t before x = when (list_any (is_argument x.name.bytes) before) x.name.place ++ declared_clash t x.name

abbrev pub link_doubled : Decl → List Link → Link → List ℕ
link_doubled decl before x = when (list_any (is_link x.name.bytes) before || has_argument x.name.bytes decl) x.name.place

abbrev pub wire_name : Item → Option Leaf
wire_name (i.Wire r n) = Some n
wire_name (i.WireSet r n x) = Some n
wire_name (i.Assign n x) = None

abbrev pub named_doubled : Tree → Decl → List Item → Option Leaf → List ℕ
named_doubled t decl before None = []
named_doubled t decl before (Some n) =
    when (list_any (declares_wire n.bytes) before || (has_parameter n.bytes decl || (has_argument n.bytes decl || has_link n.bytes decl))) n.place ++ declared_clash t n

abbrev pub wire_doubled : Tree → Decl → List Item → Item → List ℕ
wire_doubled t decl before item = named_doubled t decl before (wire_name item)

abbrev pub local_doubled_at : Tree → Decl → List ℕ
local_doubled_at t decl =
    (behind (parameter_doubled t) (parameters decl) ++ behind (argument_doubled t) (arguments decl)) ++ (behind (link_doubled decl) (links decl) ++ behind (wire_doubled t decl) (body decl))

abbrev pub local_doubled : Tree → List ℕ
local_doubled t = flat_map (local_doubled_at t) t.declarations

-- ---- 16, UnknownName: an argument's kind isn't `AR`, a file or a range; an interface name is no state or queue; a name that a body
-- reads or assigns isn't seen there, where a table may only be looked up and a function only be called; a called name is no function;
-- a schedule names no operation; a `use` names no read operand, or a `def` no written one, of one of its operations

abbrev pub unknown_kind : Tree → Argument → List ℕ
unknown_kind t x = when (not (is_named (codes "AR") x.kind || has (declares_kind x.kind.bytes) t)) x.kind.place

abbrev pub unknown_link : Tree → Link → List ℕ
unknown_link t x = when (not (has (declares_link x.name.bytes) t)) x.name.place

unfoldable pub unseen : Decl → Leaf → List ℕ
unseen decl n = when (not (sees n.bytes decl)) n.place

-- `n [ .. ]` is a bit or a look-up
unfoldable pub unseen_index : Tree → Decl → Leaf → List ℕ
unseen_index t decl n = when (not (sees n.bytes decl || has (declares_table n.bytes) t)) n.place

unfoldable pub no_function : Tree → Leaf → List ℕ
no_function t n = when (not (has (declares_function n.bytes) t)) n.place

abbrev pub unknown_form : Tree → Decl → Expr-F Expr → List ℕ
unknown_form t decl (Expr-F.Name n) = unseen decl n
unknown_form t decl (Expr-F.Select n high low) = unseen decl n
unknown_form t decl (Expr-F.Index n x) = unseen_index t decl n
unknown_form t decl (Expr-F.Call n p args) = no_function t n
unknown_form t decl _ = []

abbrev pub unknown_here : Tree → Decl → Expr → List ℕ
unknown_here t decl x = unknown_form t decl (out-Expr x)

abbrev pub unknown_target : Decl → Item → List ℕ
unknown_target decl (i.Assign n x) = unseen decl n
unknown_target decl _ = []

-- an operation of these lacks an operand of this name and of such a direction
abbrev pub lacks : (Direction → Bool) → List Leaf → List ℕ → Decl → Bool
lacks way operations name (d.Operation o) = listed o.name.bytes operations && not (operand_is way name (d.Operation o))
lacks way operations name _ = false

unfoldable pub unknown_operand : Tree → (Direction → Bool) → List Leaf → Leaf → List ℕ
unknown_operand t way operations leaf = when (has (lacks way operations leaf.bytes) t) leaf.place

unfoldable pub unknown_use : Tree → List Leaf → ScheduleItem → List ℕ
unknown_use t operations (si.Use leaves stage) = flat_map (unknown_operand t is_read operations) leaves
unknown_use t operations (si.Def leaves stage) = flat_map (unknown_operand t is_written operations) leaves

unfoldable pub unknown_operation : Tree → Leaf → List ℕ
unknown_operation t leaf = when (not (has (declares_operation leaf.bytes) t)) leaf.place

abbrev pub unknown_in_schedule : Tree → Decl → List ℕ
unknown_in_schedule t (d.Schedule x) = flat_map (unknown_operation t) x.operations ++ flat_map (unknown_use t x.operations) x.items
unknown_in_schedule t _ = []

abbrev pub unknown_name_at : Tree → Decl → List ℕ
unknown_name_at t decl =
    (flat_map (unknown_kind t) (arguments decl) ++ flat_map (unknown_link t) (links decl))
    ++ ((flat_map (unknown_target decl) (body decl) ++ in_body (unknown_here t decl) decl) ++ unknown_in_schedule t decl)

abbrev pub unknown_name : Tree → List ℕ
unknown_name t = flat_map (unknown_name_at t) t.declarations

-- ---- 17, Direction: an immediate argument that isn't `in`; a queue's direction that isn't the declared one; an assignment to an
-- `in` name or a parameter; a read of an `out` name or of the function's own name

abbrev pub bad_immediate : Tree → Argument → List ℕ
bad_immediate t x = when (has (declares_range x.kind.bytes) t && not (is_in x.direction)) x.name.place

abbrev pub bad_queue : Tree → Link → List ℕ
bad_queue t x =
    when ((has (declares_queue_in x.name.bytes) t && not (is_in x.direction)) || (has (declares_queue_out x.name.bytes) t && not (is_out x.direction))) x.name.place

abbrev pub bad_target : Decl → Item → List ℕ
bad_target decl (i.Assign n x) = when (operand_is is_in n.bytes decl || has_parameter n.bytes decl) n.place
bad_target decl _ = []

abbrev pub bad_read : Decl → Leaf → List ℕ
bad_read decl n = when (operand_is is_out n.bytes decl || names n.bytes (own_name decl)) n.place

abbrev pub bad_read_form : Decl → Expr-F Expr → List ℕ
bad_read_form decl (Expr-F.Name n) = bad_read decl n
bad_read_form decl (Expr-F.Select n high low) = bad_read decl n
bad_read_form decl (Expr-F.Index n x) = bad_read decl n
bad_read_form decl _ = []

abbrev pub bad_read_here : Decl → Expr → List ℕ
bad_read_here decl x = bad_read_form decl (out-Expr x)

abbrev pub direction_at : Tree → Decl → List ℕ
direction_at t decl =
    (flat_map (bad_immediate t) (arguments decl) ++ flat_map (bad_queue t) (links decl)) ++ (flat_map (bad_target decl) (body decl) ++ in_body (bad_read_here decl) decl)

abbrev pub direction : Tree → List ℕ
direction t = flat_map (direction_at t) t.declarations

-- ---- 18, Recursion: a call of the same or a later function inside a function

unfoldable pub not_before : Tree → List Decl → Leaf → List ℕ
not_before t before n = when (has (declares_function n.bytes) t && not (list_any (declares_function n.bytes) before)) n.place

abbrev pub recursion_form : Tree → List Decl → Expr-F Expr → List ℕ
recursion_form t before (Expr-F.Call n p args) = not_before t before n
recursion_form t before _ = []

abbrev pub recursion_here : Tree → List Decl → Expr → List ℕ
recursion_here t before x = recursion_form t before (out-Expr x)

abbrev pub recursion_at : Tree → List Decl → Decl → List ℕ
recursion_at t before (d.Function f) = flat_map (in_item (recursion_here t before)) f.items
recursion_at t before _ = []

abbrev pub recursion : Tree → List ℕ
recursion t = behind (recursion_at t) t.declarations

-- ---- 19, ArgCount: a call with another number of arguments than the function has parameters; TIEadd or TIEmul without 3, TIEmux
-- without 3, 5, 9 or 17; `x[e]` on a name that is no table, where e is no bare number

abbrev pub takes_others : List ℕ → ℕ → Decl → Bool
takes_others name count (d.Function f) = is_named name f.name && not (length f.parameters == count)
takes_others name count _ = false

abbrev pub takes : TieFunction → ℕ → Bool
takes tie.Mux n = (n == 3 || n == 5) || (n == 9 || n == 17)
takes _ n = n == 3

abbrev pub bare_number : Expr-F Expr → Option Leaf
bare_number (Expr-F.Literal (l.Number leaf)) = Some leaf
bare_number _ = None

abbrev pub number_of : Expr → Option Leaf
number_of x = bare_number (out-Expr x)

abbrev pub no_number : Option Leaf → Bool
no_number None = true
no_number (Some leaf) = false

unfoldable pub other_count : Tree → Leaf → ℕ → List ℕ
other_count t n count = when (has (takes_others n.bytes count) t) n.place

abbrev pub arg_count_form : Tree → Expr-F Expr → List ℕ
arg_count_form t (Expr-F.Index n x) = when (not (has (declares_table n.bytes) t) && no_number (number_of x)) n.place
arg_count_form t (Expr-F.Call n p args) = other_count t n (length args)
arg_count_form t (Expr-F.Tie word p args) = when (not (takes word.function (length args))) word.place
arg_count_form t _ = []

abbrev pub arg_count_here : Tree → Expr → List ℕ
arg_count_here t x = arg_count_form t (out-Expr x)

abbrev pub arg_count_at : Tree → Decl → List ℕ
arg_count_at t decl = in_body (arg_count_here t) decl

abbrev pub arg_count : Tree → List ℕ
arg_count t = flat_map (arg_count_at t) t.declarations

-- ---- 20, UsedBefore: a wire that is assigned somewhere is read before the end of its first assignment

unfoldable pub early : Decl → List Item → Leaf → List ℕ
early decl before n = when ((has_wire n.bytes decl && is_assigned n.bytes decl) && not (list_any (sets_name n.bytes) before)) n.place

abbrev pub early_form : Decl → List Item → Expr-F Expr → List ℕ
early_form decl before (Expr-F.Name n) = early decl before n
early_form decl before (Expr-F.Select n high low) = early decl before n
early_form decl before (Expr-F.Index n x) = early decl before n
early_form decl before _ = []

abbrev pub early_here : Decl → List Item → Expr → List ℕ
early_here decl before x = early_form decl before (out-Expr x)

abbrev pub used_before_item : Decl → List Item → Item → List ℕ
used_before_item decl before item = in_item (early_here decl before) item

abbrev pub used_before_at : Decl → List ℕ
used_before_at decl = behind (used_before_item decl) (body decl)

abbrev pub used_before : Tree → List ℕ
used_before t = flat_map used_before_at t.declarations

-- ---- 21, AssignedTwice: a second assignment of a name; `wire x = e` is one

abbrev pub set_again : List Item → Leaf → List ℕ
set_again before n = when (list_any (sets_name n.bytes) before) n.place

abbrev pub assigned_twice_item : List Item → Item → List ℕ
assigned_twice_item before (i.Wire r n) = []
assigned_twice_item before (i.WireSet r n x) = set_again before n
assigned_twice_item before (i.Assign n x) = set_again before n

abbrev pub assigned_twice_at : Decl → List ℕ
assigned_twice_at decl = behind assigned_twice_item (body decl)

abbrev pub assigned_twice : Tree → List ℕ
assigned_twice t = flat_map assigned_twice_at t.declarations

-- ---- 22, NotAssigned: a wire, an `out` or `inout` name or a function without assignment, at the declaring name

abbrev pub unset_wire : Decl → Item → List ℕ
unset_wire decl (i.Wire r n) = when (not (is_assigned n.bytes decl)) n.place
unset_wire decl _ = []

abbrev pub unset_argument : Decl → Argument → List ℕ
unset_argument decl x = when (is_written x.direction && not (is_assigned x.name.bytes decl)) x.name.place

abbrev pub unset_link : Decl → Link → List ℕ
unset_link decl x = when (is_written x.direction && not (is_assigned x.name.bytes decl)) x.name.place

abbrev pub unset_name : Decl → Option Leaf → List ℕ
unset_name decl None = []
unset_name decl (Some n) = when (not (is_assigned n.bytes decl)) n.place

abbrev pub not_assigned_at : Decl → List ℕ
not_assigned_at decl =
    (unset_name decl (own_name decl) ++ flat_map (unset_wire decl) (body decl)) ++ (flat_map (unset_argument decl) (arguments decl) ++ flat_map (unset_link decl) (links decl))

abbrev pub not_assigned : Tree → List ℕ
not_assigned t = flat_map not_assigned_at t.declarations

-- ---- 23, SelectRange: h below l, h or i not below the name's width, a replication of count 0, at the first number
-- (rule 6 leaves no width above 128; those above 2 ^ 32 aren't told apart)

abbrev pub bad_bit : ℕ → Option Leaf → List ℕ
bad_bit width None = []
bad_bit width (Some leaf) = when (nat_le width (bounded leaf)) leaf.place

abbrev pub bad_index : Widths → Leaf → Option Leaf → List ℕ
bad_index w n number = if w.is_table n.bytes then [] else bad_bit (limited (w.name n.bytes)) number

abbrev pub select_form : Widths → Expr-F Expr → List ℕ
select_form w (Expr-F.Select n high low) = when (nat_lt (bounded high) (bounded low) || nat_le (limited (w.name n.bytes)) (bounded high)) high.place
select_form w (Expr-F.Index n x) = bad_index w n (number_of x)
select_form w (Expr-F.Repeat p count q x) = when (bounded count == 0) count.place
select_form w _ = []

abbrev pub select_here : Widths → Expr → List ℕ
select_here w x = select_form w (out-Expr x)

abbrev pub select_range_at : Tree → Decl → List ℕ
select_range_at t decl = in_body (select_here (seen_widths t decl)) decl

abbrev pub select_range : Tree → List ℕ
select_range t = flat_map (select_range_at t) t.declarations

-- ---- 24, ArgSize: the third argument of TIEadd or TIEmul has another size than 1; TIEmux has another number of arms than 2 ^ size of its selector

abbrev pub size_of : Widths → Option Expr → ℕ
size_of w None = 0
size_of w (Some x) = size w x

abbrev pub fits_arms : ℕ → ℕ → Bool
fits_arms size count = nat_le size 4 && count == 2 ^ size + 1

abbrev pub fits_sizes : Widths → TieFunction → List Expr → Bool
fits_sizes w tie.Mux args = fits_arms (size_of w (slice_get args 0)) (length args)
fits_sizes w _ args = size_of w (slice_get args 2) == 1

abbrev pub arg_size_form : Widths → Expr-F Expr → List ℕ
arg_size_form w (Expr-F.Tie word p args) = when (not (fits_sizes w word.function args)) word.place
arg_size_form w _ = []

abbrev pub arg_size_here : Widths → Expr → List ℕ
arg_size_here w x = arg_size_form w (out-Expr x)

abbrev pub arg_size_at : Tree → Decl → List ℕ
arg_size_at t decl = in_body (arg_size_here (seen_widths t decl)) decl

abbrev pub arg_size : Tree → List ℕ
arg_size t = flat_map (arg_size_at t) t.declarations

-- ---- 25, SizeRange: a self size above 128 of an expression or a part of one, at its first token

abbrev pub literal_start : Literal → ℕ
literal_start (l.Number leaf) = leaf.place
literal_start (l.Sized leaf) = leaf.place

abbrev pub start_step : Expr-F ℕ → ℕ
start_step (Expr-F.Literal x) = literal_start x
start_step (Expr-F.Name n) = n.place
start_step (Expr-F.Select n high low) = n.place
start_step (Expr-F.Index n x) = n.place
start_step (Expr-F.Call n p args) = n.place
start_step (Expr-F.Tie word p args) = word.place
start_step (Expr-F.Paren p x) = p
start_step (Expr-F.Concat p parts) = p
start_step (Expr-F.Repeat p count q x) = p
start_step (Expr-F.Unary o p x) = p
start_step (Expr-F.Binary o a b) = a
start_step (Expr-F.Conditional c a b) = c

-- the place of an expression's first token
abbrev pub start : Expr → ℕ
start = fold-Expr ℕ start_step

abbrev pub size_here : Widths → Expr → List ℕ
size_here w x = when (nat_lt 128 (size w x)) (start x)

abbrev pub size_range_at : Tree → Decl → List ℕ
size_range_at t decl = in_body (size_here (seen_widths t decl)) decl

abbrev pub size_range : Tree → List ℕ
size_range t = flat_map (size_range_at t) t.declarations

-- ---- 31, TooLarge: an operation's results together have more than 4096 nodes

abbrev pub too_large_at : Tree → Decl → List ℕ
too_large_at t (d.Operation o) = when (nat_lt 4096 (operation_count t o)) o.name.place
too_large_at t _ = []

abbrev pub too_large : Tree → List ℕ
too_large t = flat_map (too_large_at t) t.declarations
