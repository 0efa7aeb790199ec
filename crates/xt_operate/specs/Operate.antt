-- What one part of a bundle does: what it writes, its access to memory, and where it goes.
use Rattle.std.specs.Prelude.{ℕ, List, [], ◌∷◌, ◌++◌, Option, Some, None, length, map, slice_get, slice_index}
use Rattle.std.specs.List.{zip}
use Rattle.xt_isa.specs.declared.instruction.Inst.{Inst}
use Rattle.xt_isa.specs.declared.instruction.Inst.TheVariants as inst
use Rattle.xt_core.specs.declared.action.Access.TheVariants.{Nothing}
use Rattle.xt_core.specs.declared.action.Action.{Action}
use Rattle.xt_core.specs.Action.{action}
use Rattle.xt_core.specs.View.{View}
use Rattle.tie_expr.specs.Tree.{meaning}
use Rattle.tie_expr.specs.declared.node.Node.{Node}
use Rattle.tie_desc.specs.Description.{Description}
use Rattle.tie_desc.specs.declared.declarations.OpDecl.{OpDecl}
use Rattle.tie_desc.specs.declared.formats.SlotCore.{SlotCore}
use Rattle.tie_desc.specs.declared.formats.SlotCore.TheVariants as core
use Rattle.tie_desc.specs.declared.formats.Code.{Code}
use Rattle.tie_desc.specs.declared.formats.Code.TheVariants as code
use Rattle.tie_desc.specs.declared.bundle.Part.{Part}
use Rattle.tie_desc.specs.declared.bundle.Bundle.{Bundle}
use Rattle.tie_desc.specs.declared.bundle.Bundle.TheVariants as bundle
use Rattle.tie_desc.specs.declared.bundle.Spot.{Spot}
use Rattle.tie_desc.specs.declared.bundle.Spot.TheVariants as spot
use Rattle.xt_operate.specs.Bounds.{bounds, read_words, written_places}
use Rattle.xt_operate.specs.declared.parts.Writes.{Writes}

-- nothing
abbrev pub no_writes : Writes
no_writes = record { at = []; access = Nothing; target = None }

-- ---- core instructions

-- what a core instruction reads of places
abbrev pub view : ℕ → (Spot → ℕ) → View
view pc reads = record { pc = pc; ar = λ n. reads (spot.Ar n); sar = reads spot.Sar }

abbrev pub register_write : Option (ℕ × ℕ) → List (Spot × ℕ)
register_write None = []
register_write (Some w) = (spot.Ar w.0, w.1) ∷ []

abbrev pub sar_write : Option ℕ → List (Spot × ℕ)
sar_write None = []
sar_write (Some amount) = (spot.Sar, amount) ∷ []

-- the places that an action writes; what it loads isn't among them
abbrev pub action_values : Action → List (Spot × ℕ)
action_values a = register_write a.write ++ sar_write a.sar

abbrev pub core_writes : Action → Writes
core_writes a = record { at = action_values a; access = a.access; target = a.target }

-- the instruction of a core operation with fields r, s and t
abbrev pub slot_instruction : SlotCore → List ℕ → Inst
slot_instruction core.Add f = inst.Add (slice_index f 0) (slice_index f 1) (slice_index f 2)
slot_instruction core.Addx2 f = inst.Addx2 (slice_index f 0) (slice_index f 1) (slice_index f 2)
slot_instruction core.Addx4 f = inst.Addx4 (slice_index f 0) (slice_index f 1) (slice_index f 2)
slot_instruction core.Addx8 f = inst.Addx8 (slice_index f 0) (slice_index f 1) (slice_index f 2)
slot_instruction core.Sub f = inst.Sub (slice_index f 0) (slice_index f 1) (slice_index f 2)
slot_instruction core.Subx2 f = inst.Subx2 (slice_index f 0) (slice_index f 1) (slice_index f 2)
slot_instruction core.Subx4 f = inst.Subx4 (slice_index f 0) (slice_index f 1) (slice_index f 2)
slot_instruction core.Subx8 f = inst.Subx8 (slice_index f 0) (slice_index f 1) (slice_index f 2)
slot_instruction core.And f = inst.And (slice_index f 0) (slice_index f 1) (slice_index f 2)
slot_instruction core.Or f = inst.Or (slice_index f 0) (slice_index f 1) (slice_index f 2)
slot_instruction core.Xor f = inst.Xor (slice_index f 0) (slice_index f 1) (slice_index f 2)
slot_instruction core.Min f = inst.Min (slice_index f 0) (slice_index f 1) (slice_index f 2)
slot_instruction core.Max f = inst.Max (slice_index f 0) (slice_index f 1) (slice_index f 2)
slot_instruction core.Minu f = inst.Minu (slice_index f 0) (slice_index f 1) (slice_index f 2)
slot_instruction core.Maxu f = inst.Maxu (slice_index f 0) (slice_index f 1) (slice_index f 2)
slot_instruction core.Mull f = inst.Mull (slice_index f 0) (slice_index f 1) (slice_index f 2)
slot_instruction core.Nop f = inst.Nop

-- ---- operations

-- the expressions of an operation
abbrev pub op_results : Option OpDecl → List Node
op_results None = []
op_results (Some o) = o.results

-- each written operand gets its result, which its expression gives on the words of the read ones
abbrev pub op_values : Description → Option OpDecl → Part → (Spot → ℕ) → List (Spot × ℕ)
op_values d o p reads = zip (written_places (bounds d p)) (map (λ e. (meaning e).at (read_words d reads (bounds d p))) (op_results o))

-- ---- the parts of a bundle

abbrev pub part_writes : Description → Part → ℕ → (Spot → ℕ) → Writes
part_writes d p pc reads = by_code p.code
  where
    by_code : Code → Writes
    by_code (code.Core c) = core_writes (action (slot_instruction c p.fields) (view pc reads))
    by_code (code.Op i) = record no_writes { at = op_values d (slice_get d.ops i) p reads }

-- those of a part that is there
abbrev pub some_writes : Description → Option Part → ℕ → (Spot → ℕ) → Writes
some_writes d None pc reads = no_writes
some_writes d (Some p) pc reads = part_writes d p pc reads

-- a core instruction and an operation alone are part 0, a format has one part per slot
abbrev pub part_count : Bundle → ℕ
part_count (bundle.Core i) = 1
part_count (bundle.One p) = 1
part_count (bundle.Wide f ps) = length ps.items

-- what the part of a number does, at this pc, where the places hold these values
abbrev pub operate_of : Description → Bundle → ℕ → ℕ → (Spot → ℕ) → Writes
operate_of d (bundle.Core i) part pc reads = core_writes (action i (view pc reads))
operate_of d (bundle.One p) part pc reads = part_writes d p pc reads
operate_of d (bundle.Wide f ps) part pc reads = some_writes d (slice_get ps.items part) pc reads
