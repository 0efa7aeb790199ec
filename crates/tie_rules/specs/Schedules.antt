-- Rules 26 to 30: schedules, and what the slots of a format hold.
use Rattle.std.specs.Prelude.{ℕ, ◌+◌, ◌*◌, Bool, true, false, ◌&&◌, ◌||◌, not, nat_lt, nat_le, max, min, List, [], ◌∷◌, ◌++◌, length, map, codes, Option, Some, None, if◌then◌else◌}
use Rattle.std.specs.List.{flat_map, list_any, find}
use Rattle.std.specs.Str.{bytes_eq}
use Rattle.tie_mean.specs.Sizes.{bounded}
use Rattle.tie_mean.specs.Names.{is_named, is_written}
use Rattle.tie_grammar.specs.declared.symbol.Leaf.{Leaf}
use Rattle.tie_grammar.specs.declared.symbol.Stage.{Stage}
use Rattle.tie_grammar.specs.declared.symbol.Stage.TheVariants as stage
use Rattle.tie_grammar.specs.declared.tree.Link.{Link}
use Rattle.tie_grammar.specs.declared.tree.ScheduleItem.{ScheduleItem}
use Rattle.tie_grammar.specs.declared.tree.ScheduleItem.TheVariants as si
use Rattle.tie_grammar.specs.declared.tree.Decl.{Decl}
use Rattle.tie_grammar.specs.declared.tree.Decl.TheVariants as d
use Rattle.tie_grammar.specs.declared.tree.Tree.{Tree}
use Rattle.tie_rules.specs.Least.{when, behind}
use Rattle.tie_rules.specs.Names.{declares_operation, declares_state, declares_queue, has, listed, arguments, links}
use Rattle.tie_rules.specs.Declarations.{gives_opcodes}

-- ---- 26, ScheduleTwice: an operation named in a second schedule, there; an operand named twice in the `use`s or in the `def`s of a schedule

abbrev pub schedules : List ℕ → Decl → Bool
schedules name (d.Schedule x) = listed name x.operations
schedules name _ = false

abbrev pub scheduled_again : List Decl → Leaf → List ℕ
scheduled_again before leaf = when (list_any (schedules leaf.bytes) before) leaf.place

abbrev pub uses_operand : List ℕ → ScheduleItem → Bool
uses_operand name (si.Use leaves stage) = listed name leaves
uses_operand name _ = false

abbrev pub defines_operand : List ℕ → ScheduleItem → Bool
defines_operand name (si.Def leaves stage) = listed name leaves
defines_operand name _ = false

abbrev pub used_again : List ScheduleItem → List Leaf → Leaf → List ℕ
used_again before others leaf = when (listed leaf.bytes others || list_any (uses_operand leaf.bytes) before) leaf.place

abbrev pub defined_again : List ScheduleItem → List Leaf → Leaf → List ℕ
defined_again before others leaf = when (listed leaf.bytes others || list_any (defines_operand leaf.bytes) before) leaf.place

abbrev pub operand_again : List ScheduleItem → ScheduleItem → List ℕ
operand_again before (si.Use leaves stage) = behind (used_again before) leaves
operand_again before (si.Def leaves stage) = behind (defined_again before) leaves

abbrev pub schedule_twice_at : List Decl → Decl → List ℕ
schedule_twice_at before (d.Schedule x) = flat_map (scheduled_again before) x.operations ++ behind operand_again x.items
schedule_twice_at before _ = []

abbrev pub schedule_twice : Tree → List ℕ
schedule_twice t = behind schedule_twice_at t.declarations

-- ---- 27, ScheduleOrder: a `def` at Estage in a schedule that has a `use` at Mstage, at the first such Estage word

abbrev pub is_late : Stage → Bool
is_late stage.Estage = false
is_late stage.Mstage = true

abbrev pub late_use : ScheduleItem → Bool
late_use (si.Use leaves stage) = is_late stage.stage
late_use _ = false

abbrev pub early_def : List ScheduleItem → ScheduleItem → List ℕ
early_def items (si.Def leaves stage) = when (not (is_late stage.stage) && list_any late_use items) stage.place
early_def items _ = []

abbrev pub schedule_order_at : Decl → List ℕ
schedule_order_at (d.Schedule x) = flat_map (early_def x.items) x.items
schedule_order_at _ = []

abbrev pub schedule_order : Tree → List ℕ
schedule_order t = flat_map schedule_order_at t.declarations

-- ---- what a slot lists

abbrev pub opcodes_of : Option Decl → List Leaf
opcodes_of (Some (d.SlotOpcodes x)) = x.opcodes
opcodes_of _ = []

-- the names that a slot lists
abbrev pub opcodes : Tree → Leaf → List Leaf
opcodes t slot = opcodes_of (find (gives_opcodes slot.bytes) t.declarations)

abbrev pub links_of : Option Decl → List Link
links_of None = []
links_of (Some decl) = links decl

-- the interface names of the operation that an opcode names; a core name has none
abbrev pub opcode_links : Tree → Leaf → List Link
opcode_links t opcode = links_of (find (declares_operation opcode.bytes) t.declarations)

-- ---- 28, FormatTooWide: the slots need more than width - 8 bits, at the width

-- the bits of a code's number in a list of so many codes, of which there are 16 at most
abbrev pub code_bits : ℕ → ℕ
code_bits n = if nat_le n 1 then 0 else (if nat_le n 2 then 1 else (if nat_le n 4 then 2 else (if nat_le n 8 then 3 else 4)))

abbrev pub is_nop : Leaf → Bool
is_nop leaf = bytes_eq leaf.bytes (codes "NOP")

-- the arguments of a code: of an operation its own, of a core name three, of NOP none
abbrev pub code_arguments : Leaf → Option Decl → ℕ
code_arguments leaf None = if is_nop leaf then 0 else 3
code_arguments leaf (Some decl) = length (arguments decl)

abbrev pub opcode_arguments : Tree → Leaf → ℕ
opcode_arguments t leaf = code_arguments leaf (find (declares_operation leaf.bytes) t.declarations)

abbrev pub greatest : List ℕ → ℕ
greatest [] = 0
greatest (n ∷ ns) = max n (greatest ns)

-- a code's number, and four bits for each argument of the longest list
abbrev pub slot_bits : Tree → Leaf → ℕ
slot_bits t slot = code_bits (length (opcodes t slot)) + 4 * greatest (map (opcode_arguments t) (opcodes t slot))

abbrev pub total : List ℕ → ℕ
total [] = 0
total (n ∷ ns) = n + total ns

-- (rule 11 leaves no width above 64)
abbrev pub format_too_wide_at : Tree → Decl → List ℕ
format_too_wide_at t (d.Format x) = when (nat_le (bounded x.width) 64 && nat_lt (bounded x.width) (total (map (slot_bits t) x.slots) + 8)) x.width.place
format_too_wide_at t _ = []

abbrev pub format_too_wide : Tree → List ℕ
format_too_wide t = flat_map (format_too_wide_at t) t.declarations

-- counts beyond 1000 aren't told apart
abbrev pub few : ℕ → ℕ
few n = min n 1000

-- ---- 29 and 30, StateTwice and QueueTwice: two slots list operations that write one state, or that use one queue, at the format's name

-- the interface names that are counted: states that are written, or queues
abbrev pub counted : Bool → Tree → Link → Bool
counted true t x = is_written x.direction && has (declares_state x.name.bytes) t
counted false t x = has (declares_queue x.name.bytes) t

abbrev pub is_counted : Bool → Tree → List ℕ → Link → Bool
is_counted states t name x = is_named name x.name && counted states t x

abbrev pub opcode_counts : Bool → Tree → List ℕ → Leaf → Bool
opcode_counts states t name opcode = list_any (is_counted states t name) (opcode_links t opcode)

abbrev pub slot_counts : Bool → Tree → List ℕ → Leaf → Bool
slot_counts states t name slot = list_any (opcode_counts states t name) (opcodes t slot)

-- an earlier slot counts this interface name too
abbrev pub link_shared : Bool → Tree → List Leaf → Link → Bool
link_shared states t before x = counted states t x && list_any (slot_counts states t x.name.bytes) before

abbrev pub opcode_shared : Bool → Tree → List Leaf → Leaf → Bool
opcode_shared states t before opcode = list_any (link_shared states t before) (opcode_links t opcode)

abbrev pub slot_shared : Bool → Tree → Leaf → List Leaf → Leaf → List ℕ
slot_shared states t format before slot = when (list_any (opcode_shared states t before) (opcodes t slot)) format.place

abbrev pub shared_at : Bool → Tree → Decl → List ℕ
shared_at states t (d.Format x) = behind (slot_shared states t x.name) x.slots
shared_at states t _ = []

abbrev pub state_twice : Tree → List ℕ
state_twice t = flat_map (shared_at true t) t.declarations

abbrev pub queue_twice : Tree → List ℕ
queue_twice t = flat_map (shared_at false t) t.declarations
