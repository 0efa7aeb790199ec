-- Operations as a text declares them.
use Rattle.std.specs.Prelude.{ℕ, Bool, true, false, ◌&&◌, ◌||◌, List, [], ◌∷◌, map, codes, position, Option, Some, None, if◌then◌else◌}
use Rattle.std.specs.List.{flat_map, list_any, find}
use Rattle.std.specs.Str.{bytes_eq}
use Rattle.tie_expr.specs.declared.node.Node.{Node}
use Rattle.tie_mean.specs.Names.{is_named, is_read, is_written}
use Rattle.tie_rules.specs.Schedules.{schedules, is_late, uses_operand, defines_operand}
use Rattle.tie_grammar.specs.declared.symbol.Leaf.{Leaf}
use Rattle.tie_grammar.specs.declared.symbol.Direction.{Direction}
use Rattle.tie_grammar.specs.declared.tree.ScheduleItem.{ScheduleItem}
use Rattle.tie_grammar.specs.declared.tree.ScheduleItem.TheVariants as si
use Rattle.tie_grammar.specs.declared.tree.Argument.{Argument}
use Rattle.tie_grammar.specs.declared.tree.Link.{Link}
use Rattle.tie_grammar.specs.declared.tree.Operation.{Operation}
use Rattle.tie_grammar.specs.declared.tree.Decl.{Decl}
use Rattle.tie_grammar.specs.declared.tree.Decl.TheVariants as d
use Rattle.tie_grammar.specs.declared.tree.Tree.{Tree}
use Rattle.tie_desc.specs.declared.declarations.StateDecl.{StateDecl}
use Rattle.tie_desc.specs.declared.declarations.FileDecl.{FileDecl}
use Rattle.tie_desc.specs.declared.declarations.RangeDecl.{RangeDecl}
use Rattle.tie_desc.specs.declared.declarations.QueueDecl.{QueueDecl}
use Rattle.tie_desc.specs.declared.declarations.Kind.{Kind}
use Rattle.tie_desc.specs.declared.declarations.Kind.TheVariants as kind
use Rattle.tie_desc.specs.declared.declarations.Operand.{Operand}
use Rattle.tie_desc.specs.declared.declarations.OpDecl.{OpDecl}
use Rattle.tie_describe.specs.Declarations.{byte, state_of, file_of, range_of, input_of, output_of}

-- ---- what operands speak of

abbrev pub states : Tree → List StateDecl
states t = flat_map state_of t.declarations

abbrev pub files : Tree → List FileDecl
files t = flat_map file_of t.declarations

abbrev pub ranges : Tree → List RangeDecl
ranges t = flat_map range_of t.declarations

abbrev pub inputs : Tree → List QueueDecl
inputs t = flat_map input_of t.declarations

abbrev pub outputs : Tree → List QueueDecl
outputs t = flat_map output_of t.declarations

-- the number of a file, else of a range
abbrev pub file_or_range : Option ℕ → Option ℕ → Kind
file_or_range (Some file) range = kind.File (byte file)
file_or_range None (Some range) = kind.Range (byte range)
file_or_range None None = kind.Ar

-- the number of a state, else of an input queue, else of an output queue
abbrev pub state_or_queue : Option ℕ → Option ℕ → Option ℕ → Kind
state_or_queue (Some state) input output = kind.State (byte state)
state_or_queue None (Some input) output = kind.InQueue (byte input)
state_or_queue None None (Some output) = kind.OutQueue (byte output)
state_or_queue None None None = kind.Ar

-- `AR`, or the file or range of this name
abbrev pub argument_kind : List FileDecl → List RangeDecl → Leaf → Kind
argument_kind files ranges leaf =
    if is_named (codes "AR") leaf then kind.Ar
    else file_or_range (position (λ x. bytes_eq x.name leaf.bytes) files) (position (λ x. bytes_eq x.name leaf.bytes) ranges)

-- the state or queue of this name
abbrev pub link_kind : List StateDecl → List QueueDecl → List QueueDecl → List ℕ → Kind
link_kind states inputs outputs name =
    state_or_queue (position (λ x. bytes_eq x.name name) states) (position (λ x. bytes_eq x.name name) inputs) (position (λ x. bytes_eq x.name name) outputs)

-- ---- stages

abbrev pub items_of : Option Decl → List ScheduleItem
items_of (Some (d.Schedule x)) = x.items
items_of _ = []

-- what the schedule says that names an operation, nothing where none does
abbrev pub schedule_of : Tree → Leaf → List ScheduleItem
schedule_of t name = items_of (find (schedules name.bytes) t.declarations)

abbrev pub is_late_item : ScheduleItem → Bool
is_late_item (si.Use names stage) = is_late stage.stage
is_late_item (si.Def names stage) = is_late stage.stage

-- a `use .. Mstage` that names an operand, and a `def .. Mstage`
abbrev pub is_late_use : List ℕ → ScheduleItem → Bool
is_late_use name item = uses_operand name item && is_late_item item

abbrev pub is_late_def : List ℕ → ScheduleItem → Bool
is_late_def name item = defines_operand name item && is_late_item item

abbrev pub is_used_late : List ScheduleItem → List ℕ → Bool
is_used_late items name = list_any (is_late_use name) items

abbrev pub is_defined : List ScheduleItem → List ℕ → Bool
is_defined items name = list_any (defines_operand name) items

abbrev pub is_defined_late : List ScheduleItem → List ℕ → Bool
is_defined_late items name = list_any (is_late_def name) items

-- some operand that the operation reads is used at M
abbrev pub argument_used_late : List ScheduleItem → Argument → Bool
argument_used_late items x = is_read x.direction && is_used_late items x.name.bytes

abbrev pub link_used_late : List ScheduleItem → Link → Bool
link_used_late items x = is_read x.direction && is_used_late items x.name.bytes

abbrev pub uses_late : List ScheduleItem → Operation → Bool
uses_late items o = list_any (argument_used_late items) o.arguments || list_any (link_used_late items) o.links

-- an operand is defined at the stage of its `def`, else at M where the operation uses anything at M, else at E
abbrev pub definition_late : List ScheduleItem → Bool → List ℕ → Bool
definition_late items late name = if is_defined items name then is_defined_late items name else late

-- ---- operations

abbrev pub operand : List ScheduleItem → Bool → Leaf → Direction → Kind → Operand
operand items late name way kind = record {
  name = name.bytes;
  kind = kind;
  reads = is_read way;
  writes = is_written way;
  use_m = is_read way && is_used_late items name.bytes;
  def_m = is_written way && definition_late items late name.bytes;
}

abbrev pub argument : Tree → Operation → Argument → Operand
argument t o x = operand (schedule_of t o.name) (uses_late (schedule_of t o.name) o) x.name x.direction (argument_kind (files t) (ranges t) x.kind)

abbrev pub link : Tree → Operation → Link → Operand
link t o x = operand (schedule_of t o.name) (uses_late (schedule_of t o.name) o) x.name x.direction (link_kind (states t) (inputs t) (outputs t) x.name.bytes)

abbrev pub operation : Tree → Operation → List Node → OpDecl
operation t o results = record { name = o.name.bytes; args = map (argument t o) o.arguments; links = map (link t o) o.links; results = results }

abbrev pub operation_of : Decl → List Operation
operation_of (d.Operation o) = o ∷ []
operation_of _ = []

abbrev pub operations : Tree → List Operation
operations t = flat_map operation_of t.declarations

-- each operation with its results, which stand in the same order
abbrev pub with_results : Tree → List Operation → List (List Node) → List OpDecl
with_results t [] results = []
with_results t (o ∷ os) [] = operation t o [] ∷ with_results t os []
with_results t (o ∷ os) (r ∷ results) = operation t o r ∷ with_results t os results
