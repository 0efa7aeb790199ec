-- Rules 1 to 14: declarations.
use Rattle.std.specs.Prelude.{ℕ, ◌+◌, ◌-◌, ◌/◌, ◌%◌, Bool, true, false, ◌&&◌, ◌||◌, not, ◌==◌, nat_lt, nat_le, List, [], ◌∷◌, ◌++◌, length, codes, Option, Some, None, if◌then◌else◌}
use Rattle.std.specs.List.{flat_map, list_any, count_by}
use Rattle.std.specs.Str.{bytes_eq}
use Rattle.std.specs.Char.{is_ascii_alphabetic}
use Rattle.tie_desc.specs.Mnemonics.{is_core_mnemonic}
use Rattle.tie_mean.specs.Literals.{is_width, literal_fits, literal_sound}
use Rattle.tie_mean.specs.Sizes.{bounded}
use Rattle.tie_mean.specs.Names.{is_named}
use Rattle.tie_grammar.specs.declared.symbol.Leaf.{Leaf}
use Rattle.tie_grammar.specs.declared.tree.Literal.{Literal}
use Rattle.tie_grammar.specs.declared.tree.Literal.TheVariants as l
use Rattle.tie_grammar.specs.declared.tree.Int.{Int}
use Rattle.tie_grammar.specs.declared.tree.Range.{Range}
use Rattle.tie_grammar.specs.declared.tree.Item.{Item}
use Rattle.tie_grammar.specs.declared.tree.Item.TheVariants as i
use Rattle.tie_grammar.specs.declared.tree.Parameter.{Parameter}
use Rattle.tie_grammar.specs.declared.tree.Decl.{Decl}
use Rattle.tie_grammar.specs.declared.tree.Decl.TheVariants as d
use Rattle.tie_grammar.specs.declared.tree.Tree.{Tree}
use Rattle.tie_grammar.specs.declared.tree.Expr.{Expr, out-Expr}
use Rattle.tie_grammar.specs.declared.tree.Expr.TheOpen.{Expr-F}
use Rattle.tie_rules.specs.Least.{when, behind}
use Rattle.tie_rules.specs.Parts.{at_parts}
use Rattle.tie_rules.specs.Names.{names, declared_name, declares, is_operation, declares_operation, has, listed, body}

-- the place of a name, where a test says so
abbrev pub at_name : Option Leaf → Bool → List ℕ
at_name None broken = []
at_name (Some leaf) broken = when broken leaf.place

-- ---- 1, Doubled: a declared name equals an earlier one, is `AR`, or, of an operation, is a core mnemonic in any case

abbrev pub is_reserved : Decl → Leaf → Bool
is_reserved decl leaf = is_named (codes "AR") leaf || (is_operation decl && is_core_mnemonic leaf.bytes)

abbrev pub doubled_name : List Decl → Decl → Option Leaf → List ℕ
doubled_name before decl None = []
doubled_name before decl (Some leaf) = when (list_any (declares leaf.bytes) before || is_reserved decl leaf) leaf.place

abbrev pub doubled_at : List Decl → Decl → List ℕ
doubled_at before decl = doubled_name before decl (declared_name decl)

abbrev pub doubled : Tree → List ℕ
doubled t = behind doubled_at t.declarations

-- ---- 2, ShortName: a register file's short name has another byte than letters, is `a`, or equals an earlier short name

abbrev pub short_of : Decl → Option Leaf
short_of (d.Regfile x) = Some x.short
short_of _ = None

abbrev pub has_short : List ℕ → Decl → Bool
has_short name decl = names name (short_of decl)

abbrev pub is_other_byte : ℕ → Bool
is_other_byte b = not (is_ascii_alphabetic b)

abbrev pub bad_short : List Decl → Leaf → Bool
bad_short before short = (list_any is_other_byte short.bytes || is_named (codes "a") short) || list_any (has_short short.bytes) before

abbrev pub short_name_of : List Decl → Option Leaf → List ℕ
short_name_of before None = []
short_name_of before (Some short) = when (bad_short before short) short.place

abbrev pub short_name_at : List Decl → Decl → List ℕ
short_name_at before decl = short_name_of before (short_of decl)

abbrev pub short_name : Tree → List ℕ
short_name t = behind short_name_at t.declarations

-- ---- 3, TooMany: more than 32 states, 8 files, 8 queues of one direction, 32 ranges, 32 tables, 64 functions, 16 formats of one width, 64 schedules

-- how many of its sort a text may have
abbrev pub limit_of : Decl → Option ℕ
limit_of (d.State x) = Some 32
limit_of (d.Regfile x) = Some 8
limit_of (d.QueueIn x) = Some 8
limit_of (d.QueueOut x) = Some 8
limit_of (d.Table x) = Some 32
limit_of (d.ImmediateRange x) = Some 32
limit_of (d.Function x) = Some 64
limit_of (d.Operation x) = None
limit_of (d.Schedule x) = Some 64
limit_of (d.Format x) = Some 16
limit_of (d.SlotOpcodes x) = None

abbrev pub is_format_of : Leaf → Decl → Bool
is_format_of width (d.Format x) = bounded width == bounded x.width
is_format_of width _ = false

abbrev pub same_sort : Decl → Decl → Bool
same_sort (d.State x) (d.State y) = true
same_sort (d.Regfile x) (d.Regfile y) = true
same_sort (d.QueueIn x) (d.QueueIn y) = true
same_sort (d.QueueOut x) (d.QueueOut y) = true
same_sort (d.Table x) (d.Table y) = true
same_sort (d.ImmediateRange x) (d.ImmediateRange y) = true
same_sort (d.Function x) (d.Function y) = true
same_sort (d.Schedule x) (d.Schedule y) = true
same_sort (d.Format x) y = is_format_of x.width y
same_sort _ _ = false

-- as many as there may be stand before it
abbrev pub is_full : Option ℕ → ℕ → Bool
is_full None n = false
is_full (Some limit) n = n == limit

abbrev pub too_many_at : List Decl → Decl → List ℕ
too_many_at before decl = at_name (declared_name decl) (is_full (limit_of decl) (count_by (same_sort decl) before))

abbrev pub too_many : Tree → List ℕ
too_many t = behind too_many_at t.declarations

-- ---- 4, TooManyOpcodes: more than 32 operations, at the 33rd

abbrev pub too_many_opcodes_at : List Decl → Decl → List ℕ
too_many_opcodes_at before decl = at_name (declared_name decl) (is_operation decl && count_by is_operation before == 32)

abbrev pub too_many_opcodes : Tree → List ℕ
too_many_opcodes t = behind too_many_opcodes_at t.declarations

-- ---- 5, TooManyArgs: an operation with more than 3 arguments or 8 interface names, a function with more than 8 parameters

abbrev pub too_many_args_at : Decl → List ℕ
too_many_args_at (d.Function f) = when (nat_lt 8 (length f.parameters)) f.name.place
too_many_args_at (d.Operation o) = when (nat_lt 3 (length o.arguments) || nat_lt 8 (length o.links)) o.name.place
too_many_args_at _ = []

abbrev pub too_many_args : Tree → List ℕ
too_many_args t = flat_map too_many_args_at t.declarations

-- ---- 6, WidthRange: a width outside 1 to 128, at the number

abbrev pub bad_width : Leaf → List ℕ
bad_width leaf = when (not (is_width (bounded leaf))) leaf.place

-- a range has one bit more than its number
abbrev pub bad_range : Option Range → List ℕ
bad_range None = []
bad_range (Some r) = when (nat_le 128 (bounded r.high)) r.high.place

abbrev pub parameter_width : Parameter → List ℕ
parameter_width x = bad_range x.range

abbrev pub wire_width : Item → List ℕ
wire_width (i.Wire r n) = bad_range r
wire_width (i.WireSet r n x) = bad_range r
wire_width (i.Assign n x) = []

abbrev pub width_range_at : Decl → List ℕ
width_range_at (d.State x) = bad_width x.width
width_range_at (d.Regfile x) = bad_width x.width
width_range_at (d.QueueIn x) = bad_width x.width
width_range_at (d.QueueOut x) = bad_width x.width
width_range_at (d.Table x) = bad_width x.width
width_range_at (d.Function f) = bad_range f.range ++ (flat_map parameter_width f.parameters ++ flat_map wire_width f.items)
width_range_at (d.Operation o) = flat_map wire_width o.items
width_range_at _ = []

abbrev pub width_range : Tree → List ℕ
width_range t = flat_map width_range_at t.declarations

-- ---- 7, DepthRange: a file's depth outside 1 to 16, a table's outside 1 to 256, at the number

abbrev pub bad_depth : ℕ → Leaf → List ℕ
bad_depth limit leaf = when (not (nat_lt 0 (bounded leaf) && nat_le (bounded leaf) limit)) leaf.place

abbrev pub depth_range_at : Decl → List ℕ
depth_range_at (d.Regfile x) = bad_depth 16 x.depth
depth_range_at (d.Table x) = bad_depth 256 x.depth
depth_range_at _ = []

abbrev pub depth_range : Tree → List ℕ
depth_range t = flat_map depth_range_at t.declarations

-- ---- 8, LiteralRange: a number of an expression is 2 ^ 32 or more; a sized number doesn't fit its width, or its width is outside 1 to 128;
-- a reset value or an entry of a table doesn't fit the declared width

abbrev pub literal_place : Literal → ℕ
literal_place (l.Number leaf) = leaf.place
literal_place (l.Sized leaf) = leaf.place

abbrev pub fits_itself : Literal → Bool
fits_itself (l.Number leaf) = true
fits_itself (l.Sized leaf) = literal_sound (l.Sized leaf)

-- a value of a declared width, which rule 6 has judged
abbrev pub bad_value : ℕ → Literal → List ℕ
bad_value width x = when (is_width width && not (fits_itself x && literal_fits width x)) (literal_place x)

abbrev pub bad_reset : ℕ → Option Literal → List ℕ
bad_reset width None = []
bad_reset width (Some x) = bad_value width x

abbrev pub large_number : Leaf → List ℕ
large_number leaf = when (nat_le 4294967296 (bounded leaf)) leaf.place

abbrev pub literal_form : Expr-F Expr → List ℕ
literal_form (Expr-F.Literal x) = when (not (literal_sound x)) (literal_place x)
literal_form (Expr-F.Select n high low) = large_number high ++ large_number low
literal_form (Expr-F.Repeat p count q x) = large_number count
literal_form _ = []

abbrev pub literal_here : Expr → List ℕ
literal_here x = literal_form (out-Expr x)

-- the places that are named at the parts of what an item assigns
abbrev pub in_item : (Expr → List ℕ) → Item → List ℕ
in_item here (i.Wire r n) = []
in_item here (i.WireSet r n x) = at_parts here x
in_item here (i.Assign n x) = at_parts here x

-- and of all that a body assigns
abbrev pub in_body : (Expr → List ℕ) → Decl → List ℕ
in_body here decl = flat_map (in_item here) (body decl)

abbrev pub bad_values_at : Decl → List ℕ
bad_values_at (d.State x) = bad_reset (bounded x.width) x.reset
bad_values_at (d.Table x) = flat_map (bad_value (bounded x.width)) x.entries
bad_values_at _ = []

abbrev pub literal_range_at : Decl → List ℕ
literal_range_at decl = bad_values_at decl ++ in_body literal_here decl

abbrev pub literal_range : Tree → List ℕ
literal_range t = flat_map literal_range_at t.declarations

-- ---- 9, TableCount: a table's entries aren't as many as its depth

abbrev pub table_count_at : Decl → List ℕ
table_count_at (d.Table x) = when (not (length x.entries == bounded x.depth)) x.name.place
table_count_at _ = []

abbrev pub table_count : Tree → List ℕ
table_count t = flat_map table_count_at t.declarations

-- ---- 10, ImmRange: low above high, a step of 0 or above 2 ^ 32 - 1, high - low no multiple of the step, more than 16 values, or a value outside -2 ^ 31 to 2 ^ 31 - 1

-- an integer's distance from -2 ^ 31, where it is from there to 2 ^ 31 - 1
abbrev pub above : Option ℕ → ℕ → Option ℕ
above None n = if nat_lt n 2147483648 then Some (2147483648 + n) else None
above (Some minus) n = if nat_le n 2147483648 then Some (2147483648 - n) else None

abbrev pub above_lowest : Int → Option ℕ
above_lowest x = above x.minus (bounded x.number)

abbrev pub good_steps : ℕ → ℕ → ℕ → Bool
good_steps low high step = ((nat_le low high && nat_lt 0 step) && (nat_lt step 4294967296 && (high - low) % step == 0)) && nat_lt ((high - low) / step) 16

abbrev pub good_range : Option ℕ → Option ℕ → ℕ → Bool
good_range (Some low) (Some high) step = good_steps low high step
good_range _ _ step = false

abbrev pub imm_range_at : Decl → List ℕ
imm_range_at (d.ImmediateRange x) = when (not (good_range (above_lowest x.low) (above_lowest x.high) (bounded x.step))) x.name.place
imm_range_at _ = []

abbrev pub imm_range : Tree → List ℕ
imm_range t = flat_map imm_range_at t.declarations

-- ---- 11, FormatWidth: not 32 or 64, at the number

abbrev pub format_width_at : Decl → List ℕ
format_width_at (d.Format x) = when (not (bounded x.width == 32 || bounded x.width == 64)) x.width.place
format_width_at _ = []

abbrev pub format_width : Tree → List ℕ
format_width t = flat_map format_width_at t.declarations

-- ---- 12, SlotCount: a format with more than 4 slots

abbrev pub slot_count_at : Decl → List ℕ
slot_count_at (d.Format x) = when (nat_lt 4 (length x.slots)) x.name.place
slot_count_at _ = []

abbrev pub slot_count : Tree → List ℕ
slot_count t = flat_map slot_count_at t.declarations

-- ---- 13, SlotList: a slot named a second time in formats, a slot without slot_opcodes, slot_opcodes of no slot, or a second one

abbrev pub has_slot : List ℕ → Decl → Bool
has_slot name (d.Format x) = listed name x.slots
has_slot name _ = false

abbrev pub gives_opcodes : List ℕ → Decl → Bool
gives_opcodes name (d.SlotOpcodes x) = is_named name x.slot
gives_opcodes name _ = false

abbrev pub slot_at : Tree → List Decl → List Leaf → Leaf → List ℕ
slot_at t before others slot =
    when ((list_any (has_slot slot.bytes) before || listed slot.bytes others) || not (has (gives_opcodes slot.bytes) t)) slot.place

abbrev pub slot_list_at : Tree → List Decl → Decl → List ℕ
slot_list_at t before (d.Format x) = behind (slot_at t before) x.slots
slot_list_at t before (d.SlotOpcodes x) = when (not (has (has_slot x.slot.bytes) t) || list_any (gives_opcodes x.slot.bytes) before) x.slot.place
slot_list_at t before _ = []

abbrev pub slot_list : Tree → List ℕ
slot_list t = behind (slot_list_at t) t.declarations

-- ---- 14, SlotOpcode: a listed name is no operation and no slot core name, or stands a second time in the list, at the name; a list of more than 16, at the 17th

unfoldable pub slot_core_names : List (List ℕ)
slot_core_names =
    codes "ADD" ∷ codes "ADDX2" ∷ codes "ADDX4" ∷ codes "ADDX8" ∷ codes "SUB" ∷ codes "SUBX2" ∷ codes "SUBX4" ∷ codes "SUBX8" ∷
    codes "AND" ∷ codes "OR" ∷ codes "XOR" ∷ codes "MIN" ∷ codes "MAX" ∷ codes "MINU" ∷ codes "MAXU" ∷ codes "MULL" ∷ codes "NOP" ∷ []

-- in upper case
unfoldable pub is_slot_core : List ℕ → Bool
unfolding slot_core_names
is_slot_core name = list_any (bytes_eq name) slot_core_names

abbrev pub is_code : Tree → Leaf → Bool
is_code t leaf = has (declares_operation leaf.bytes) t || is_slot_core leaf.bytes

-- (names behind the 17th stand behind a fault)
abbrev pub opcode_at : Tree → List Leaf → Leaf → List ℕ
opcode_at t before leaf = when (nat_le (length before) 16 && ((not (is_code t leaf) || listed leaf.bytes before) || length before == 16)) leaf.place

abbrev pub slot_opcode_at : Tree → Decl → List ℕ
slot_opcode_at t (d.SlotOpcodes x) = behind (opcode_at t) x.opcodes
slot_opcode_at t _ = []

abbrev pub slot_opcode : Tree → List ℕ
slot_opcode t = flat_map (slot_opcode_at t) t.declarations
