-- Names that stand a second time.
use Rattle.std.specs.Borrow.{Bor}
use Rattle.std.specs.Prelude.{ℕ, Bool, true, false, ◌&&◌, ◌||◌, not, List, [], ◌++◌, codes, Option, Some, None}
use Rattle.std.specs.List.{list_any, flat_map}
use Rattle.std.specs.BTreeSet.{BTreeSet}
use Rattle.tie_mean.specs.Kept.{met}
use Rattle.tie_grammar.specs.declared.symbol.Leaf.{Leaf}
use Rattle.tie_grammar.specs.declared.tree.Decl.{Decl}
use Rattle.tie_grammar.specs.declared.tree.Decl.TheVariants as d
use Rattle.tie_grammar.specs.declared.tree.Tree.{Tree}
use Rattle.tie_grammar.specs.declared.tree.ScheduleItem.{ScheduleItem}
use Rattle.tie_grammar.specs.declared.tree.ScheduleItem.TheVariants as si
use Rattle.tie_grammar.specs.declared.tree.Item.{Item}
use Rattle.tie_grammar.specs.declared.tree.Item.TheVariants as i
use Rattle.tie_grammar.specs.declared.tree.Expr.{Expr, out-Expr}
use Rattle.tie_grammar.specs.declared.tree.Expr.TheOpen.{Expr-F}
use Rattle.tie_mean.specs.Names.{is_named}
use Rattle.tie_rules.specs.Least.{when, behind}
use Rattle.tie_rules.specs.Names.{names, declared_name, has_wire, is_assigned, has_parameter, has_argument, has_link, listed, arguments, links, body, has}
use Rattle.tie_rules.specs.Declarations.{is_reserved, is_other_byte, short_of, in_item, in_body, has_slot, gives_opcodes}
use Rattle.tie_rules.specs.Schedules.{operand_again}
use Rattle.tie_rules.specs.Bodies.{declared_clash, wire_name, unknown_kind, unknown_link, unknown_target, unknown_here}

-- a thing has this name
abbrev pub has_name : {A : Type 0} → (A → Option Leaf) → List ℕ → A → Bool
has_name name bytes x = names bytes (name x)

-- one of those before has the name
abbrev pub again_of : {A : Type 0} → (A → Option Leaf) → List A → Option Leaf → Bool
again_of name before None = false
again_of name before (Some leaf) = list_any (has_name name leaf.bytes) before

abbrev pub at_again : {A : Type 0} → (A → Option Leaf) → (Bool → A → List ℕ) → List A → A → List ℕ
at_again name places before x = places (again_of name before (name x)) x

-- where a rule asks which names stand before
abbrev pub at_met : {A : Type 0} → (A → Option Leaf) → ((List ℕ → Bool) → A → List ℕ) → List A → A → List ℕ
at_met name places before x = places (λ q. list_any (has_name name q) before) x

-- a thing lists this name
abbrev pub lists_name : {A : Type 0} → (A → List Leaf) → List ℕ → A → Bool
lists_name leaves q x = listed q (leaves x)

-- where a rule asks which names are listed before
abbrev pub at_lists : {A : Type 0} → (A → List Leaf) → ((List ℕ → Bool) → A → List ℕ) → List A → A → List ℕ
at_lists leaves places before x = places (λ q. list_any (lists_name leaves q) before) x

-- a name that stands before in its list, or is known
abbrev pub leaf_again : (List ℕ → Bool) → List Leaf → Leaf → List ℕ
leaf_again known others leaf = when (listed leaf.bytes others || known leaf.bytes) leaf.place

abbrev pub held_name : BTreeSet (Bor (List ℕ)) → Option Leaf → Bool
held_name s None = false
held_name s (Some leaf) = met s leaf.bytes

-- ---- rules 1 and 2, where it is known whether the name was met

abbrev pub doubled_by : Bool → Decl → Option Leaf → List ℕ
doubled_by again decl None = []
doubled_by again decl (Some leaf) = when (again || is_reserved decl leaf) leaf.place

abbrev pub doubled_here : Bool → Decl → List ℕ
doubled_here again decl = doubled_by again decl (declared_name decl)

abbrev pub short_by : Bool → Option Leaf → List ℕ
short_by again None = []
short_by again (Some short) = when ((list_any is_other_byte short.bytes || is_named (codes "a") short) || again) short.place

abbrev pub short_here : Bool → Decl → List ℕ
short_here again decl = short_by again (short_of decl)

-- ---- bodies

-- the name that an item assigns
abbrev pub set_name : Item → Option Leaf
set_name (i.Wire r n) = None
set_name (i.WireSet r n x) = Some n
set_name (i.Assign n x) = Some n

-- ---- rules 20 and 21

-- a wire that is assigned somewhere
abbrev pub waits : Decl → List ℕ → Bool
waits decl q = has_wire q decl && is_assigned q decl

-- a name that waits for its first assignment
unfoldable pub early_by : (List ℕ → Bool) → (List ℕ → Bool) → Leaf → List ℕ
early_by waits set n = when (waits n.bytes && not (set n.bytes)) n.place

abbrev pub early_form_by : (List ℕ → Bool) → (List ℕ → Bool) → Expr-F Expr → List ℕ
early_form_by waits set (Expr-F.Name n) = early_by waits set n
early_form_by waits set (Expr-F.Select n high low) = early_by waits set n
early_form_by waits set (Expr-F.Index n x) = early_by waits set n
early_form_by waits set _ = []

abbrev pub early_here_by : (List ℕ → Bool) → (List ℕ → Bool) → Expr → List ℕ
early_here_by waits set x = early_form_by waits set (out-Expr x)

abbrev pub early_item : (List ℕ → Bool) → (List ℕ → Bool) → Item → List ℕ
early_item waits set item = in_item (early_here_by waits set) item

abbrev pub set_again_by : Bool → Option Leaf → List ℕ
set_again_by again None = []
set_again_by again (Some n) = when again n.place

abbrev pub set_again_here : Bool → Item → List ℕ
set_again_here again item = set_again_by again (set_name item)

-- ---- rules 15 and 16

abbrev pub named_doubled_by : Tree → Decl → Bool → Option Leaf → List ℕ
named_doubled_by t decl again None = []
named_doubled_by t decl again (Some n) =
    when (again || (has_parameter n.bytes decl || (has_argument n.bytes decl || has_link n.bytes decl))) n.place ++ declared_clash t n

abbrev pub wire_doubled_here : Tree → Decl → Bool → Item → List ℕ
wire_doubled_here t decl again item = named_doubled_by t decl again (wire_name item)

-- the names of an operation that some names have
abbrev pub is_listed_by : (List ℕ → Bool) → Decl → Bool
is_listed_by names (d.Operation o) = names o.name.bytes
is_listed_by names _ = false

abbrev pub is_listed : List Leaf → Decl → Bool
is_listed operations decl = is_listed_by (λ q. listed q operations) decl

abbrev pub unknown_in_body : Tree → Decl → List ℕ
unknown_in_body t decl =
    (flat_map (unknown_kind t) (arguments decl) ++ flat_map (unknown_link t) (links decl)) ++ (flat_map (unknown_target decl) (body decl) ++ in_body (unknown_here t decl) decl)

-- ---- rule 13

-- the slots of a format
abbrev pub slots_of : Decl → List Leaf
slots_of (d.Format x) = x.slots
slots_of _ = []

-- the slot whose opcodes are listed
abbrev pub given_slot : Decl → Option Leaf
given_slot (d.SlotOpcodes x) = Some x.slot
given_slot _ = None

abbrev pub slots_again : (List ℕ → Bool) → Decl → List ℕ
slots_again known decl = behind (leaf_again known) (slots_of decl)

abbrev pub given_again : Bool → Decl → List ℕ
given_again again decl = set_again_by again (given_slot decl)

-- a slot without opcodes
abbrev pub lone_slot : Tree → Leaf → List ℕ
lone_slot t slot = when (not (has (gives_opcodes slot.bytes) t)) slot.place

-- opcodes of no slot
abbrev pub lone_given : Tree → Option Leaf → List ℕ
lone_given t None = []
lone_given t (Some slot) = when (not (has (has_slot slot.bytes) t)) slot.place

abbrev pub lone_at : Tree → Decl → List ℕ
lone_at t decl = flat_map (lone_slot t) (slots_of decl) ++ lone_given t (given_slot decl)

-- ---- rule 26

-- the operations that a schedule lists
abbrev pub scheduled_leaves : Decl → List Leaf
scheduled_leaves (d.Schedule x) = x.operations
scheduled_leaves _ = []

abbrev pub known_leaf : (List ℕ → Bool) → Leaf → List ℕ
known_leaf known leaf = when (known leaf.bytes) leaf.place

abbrev pub scheduled_here : (List ℕ → Bool) → Decl → List ℕ
scheduled_here known decl = flat_map (known_leaf known) (scheduled_leaves decl)

-- the names that an item of a schedule uses, or those that it defines
abbrev pub operands : Bool → ScheduleItem → List Leaf
operands false (si.Use leaves stage) = leaves
operands true (si.Def leaves stage) = leaves
operands _ _ = []

abbrev pub operands_here : Bool → (List ℕ → Bool) → ScheduleItem → List ℕ
operands_here defined known item = behind (leaf_again known) (operands defined item)

-- operands of a schedule that are used twice or defined twice
abbrev pub operands_twice : Decl → List ℕ
operands_twice (d.Schedule x) = behind operand_again x.items
operands_twice _ = []
