-- Operations as parts of formats: codes, fields, and the registers that they write.
use Rattle.std.specs.Prelude.{ℕ, ◌%◌, Bool, true, false, ℤ, pos, unsigned_abs, List, [], ◌∷◌, ◌++◌, length, map, Option, Some, None, slice_get, unwrap_or, if◌then◌else◌}
use Rattle.std.specs.List.{list_any, flat_map}
use Rattle.xt_mnemonics.specs.declared.mnemonic.Mnemonic.{Mnemonic}
use Rattle.xt_mnemonics.specs.declared.mnemonic.Mnemonic.TheVariants as mnemonic
use Rattle.tie_desc.specs.Description.{Description}
use Rattle.tie_desc.specs.Slots.{args_of, place_of}
use Rattle.tie_desc.specs.Spots.{spot_of, same_spot}
use Rattle.tie_desc.specs.declared.bundle.Spot.{Spot}
use Rattle.tie_desc.specs.declared.declarations.Access.{Access}
use Rattle.tie_desc.specs.declared.declarations.RangeDecl.{RangeDecl}
use Rattle.tie_desc.specs.declared.formats.SlotCore.{SlotCore}
use Rattle.tie_desc.specs.declared.formats.SlotCore.TheVariants as core
use Rattle.tie_desc.specs.declared.formats.Code.{Code}
use Rattle.tie_desc.specs.declared.formats.Code.TheVariants as code
use Rattle.asm_lines.specs.declared.line.Operand.{Operand}
use Rattle.asm_lines.specs.declared.line.Operation.{Operation}
use Rattle.asm_lines.specs.declared.line.Operator.{Operator}
use Rattle.asm_lines.specs.declared.line.Operator.TheVariants as operator
use Rattle.asm_rules.specs.declared.expected.Expected.{Expected}
use Rattle.asm_rules.specs.declared.expected.Expected.TheVariants as expect
use Rattle.asm_rules.specs.declared.written.Written.{Written}
use Rattle.asm_rules.specs.Expected.{of_access}
use Rattle.asm_rules.specs.Operands.{meant, place_in, column_of}

-- the core operations that slots may list
abbrev pub slot_core : Mnemonic → Option SlotCore
slot_core mnemonic.Add = Some core.Add
slot_core mnemonic.Addx2 = Some core.Addx2
slot_core mnemonic.Addx4 = Some core.Addx4
slot_core mnemonic.Addx8 = Some core.Addx8
slot_core mnemonic.Sub = Some core.Sub
slot_core mnemonic.Subx2 = Some core.Subx2
slot_core mnemonic.Subx4 = Some core.Subx4
slot_core mnemonic.Subx8 = Some core.Subx8
slot_core mnemonic.And = Some core.And
slot_core mnemonic.Or = Some core.Or
slot_core mnemonic.Xor = Some core.Xor
slot_core mnemonic.Min = Some core.Min
slot_core mnemonic.Max = Some core.Max
slot_core mnemonic.Minu = Some core.Minu
slot_core mnemonic.Maxu = Some core.Maxu
slot_core mnemonic.Mull = Some core.Mull
slot_core mnemonic.Nop = Some core.Nop
slot_core _ = None

abbrev pub core_code : Option SlotCore → Option Code
core_code None = None
core_code (Some c) = Some (code.Core c)

-- the code of an operator in a slot, if slots may hold it
abbrev pub code_of : Operator → Option Code
code_of (operator.Core m) = core_code (slot_core m)
code_of (operator.Op i) = Some (code.Op i)

abbrev pub code_in : Operation → Option Code
code_in o = by o.operator
  where
    by : Option Operator → Option Code
    by None = None
    by (Some op) = code_of op

-- ---- fields

abbrev pub range_place : Option RangeDecl → ℤ → ℕ
range_place None z = 0
range_place (Some r) z = place_in r z

-- the number of an operand: of its register, or of its value in the range
abbrev pub number_in : Description → Expected → Operand → ℕ
number_in d (expect.Immediate r) o = range_place (slice_get d.ranges r) (unwrap_or (meant d (expect.Immediate r) o) (pos 0))
number_in d e o = unsigned_abs (unwrap_or (meant d e o) (pos 0))

-- a field has four bits; a number that its place accepts is below 16
abbrev pub field_of : Description → Expected → Operand → ℕ
field_of d e o = number_in d e o % 16

abbrev pub field_at : Description → Option Access → Option Operand → ℕ
field_at d (Some a) (Some o) = field_of d (of_access a) o
field_at d _ _ = 0

-- three fields; one that the code doesn't have is 0
abbrev pub fields : Description → Code → List Operand → List ℕ
fields d c os =
    field_at d (slice_get (args_of d c) 0) (slice_get os 0) ∷ field_at d (slice_get (args_of d c) 1) (slice_get os 1)
    ∷ field_at d (slice_get (args_of d c) 2) (slice_get os 2) ∷ []

-- ---- written registers

abbrev pub written_by : Description → Access → Operand → List Written
written_by d a o = if a.writes then map (λ s. record { spot = s; column = column_of o }) (spot_of a.kind (field_of d (of_access a) o)) else []

abbrev pub written_in : Description → List Access → List Operand → List Written
written_in d (a ∷ as') (o ∷ os) = written_by d a o ++ written_in d as' os
written_in d _ _ = []

abbrev pub written_of : Description → Option Code → List Operand → List Written
written_of d None os = []
written_of d (Some c) os = written_in d (args_of d c) os

abbrev pub written : Description → Operation → List Written
written d o = written_of d (code_in o) o.operands

-- the column of the first register that is among the earlier ones
abbrev pub repeated : List Written → List Written → Option ℕ
repeated earlier [] = None
repeated earlier (w ∷ ws) = if list_any (λ e. same_spot e.spot w.spot) earlier then Some w.column else repeated (earlier ++ w ∷ []) ws
