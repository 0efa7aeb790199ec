-- The bytes of a bundle, written field by field.
use Rattle.std.specs.Prelude.{ℕ, ◌+◌, ◌*◌, ◌/◌, ◌%◌, ◌<◌, Bool, true, false, ◌&&◌, ◌==◌, nat_lt, List, [], ◌∷◌, length, Option, Some, None, slice_get, slice_index, IsTrue, if◌then◌else◌}
use Rattle.std.specs.Int.{to_le_bytes, w32, w64}
use Rattle.std.specs.List.{flat_map}
use Rattle.xt_isa.specs.Formats.{rrr}
use Rattle.xt_isa.specs.Table.{Fits, word}
use Rattle.tie_desc.specs.Names.{all_differ}
use Rattle.tie_desc.specs.Description.{Description}
use Rattle.tie_desc.specs.Operands.{limit}
use Rattle.tie_desc.specs.Slots.{args_of, place_of, longest, code_space}
use Rattle.tie_desc.specs.Spots.{written_registers, same_spot}
use Rattle.tie_desc.specs.declared.declarations.Access.{Access}
use Rattle.tie_desc.specs.declared.formats.Code.{Code}
use Rattle.tie_desc.specs.declared.formats.Code.TheVariants as code
use Rattle.tie_desc.specs.declared.formats.SlotDecl.{SlotDecl}
use Rattle.tie_desc.specs.declared.formats.FormatDecl.{FormatDecl}
use Rattle.tie_desc.specs.declared.bundle.Part.{Part}
use Rattle.tie_desc.specs.declared.bundle.Bundle.{Bundle}
use Rattle.tie_desc.specs.declared.bundle.Bundle.TheVariants as bundle

-- three bytes of a number, the lowest first
abbrev pub three_bytes : ℕ → List ℕ
three_bytes n = n % 256 ∷ n / 256 % 256 ∷ n / 65536 % 256 ∷ []

-- the i-th operation alone: op0 0, op1 6 and on, its arguments in r, s, t
abbrev pub op_word : Code → List ℕ → ℕ
op_word (code.Core c) fields = 0
op_word (code.Op i) fields = rrr 0 (slice_index fields 2) (slice_index fields 1) (slice_index fields 0) (6 + i / 16) (i % 16)

-- a field of four bits below the bits above it, where the slot has it
abbrev pub put : Bool → ℕ → ℕ → ℕ
put used field above = if used then above * 16 + field else above

-- the fields from number i on, of which the slot has n, the first lowest
abbrev pub fields_below : ℕ → ℕ → List ℕ → ℕ → ℕ
fields_below n i [] above = above
fields_below n i (f ∷ fs) above = put (nat_lt i n) f (fields_below n (i + 1) fs above)

-- a slot below the bits above it: the number of the code in its list, then the fields
abbrev pub slot_below : Description → SlotDecl → Part → ℕ → ℕ
slot_below d s p above = fields_below (longest d s.codes) 0 p.fields above * code_space (length s.codes) + place_of p.code s.codes

-- the slots, the first lowest
abbrev pub slots_word : Description → List SlotDecl → List Part → ℕ
slots_word d (s ∷ ss) (p ∷ ps) = slot_below d s p (slots_word d ss ps)
slots_word d _ _ = 0

-- a format: op0 14 or 15 for its width, four bits for its number, then its slots
abbrev pub format_word : Description → FormatDecl → List Part → ℕ
format_word d f ps = (slots_word d f.slots ps * 16 + f.number) * 16 + (if f.width == 64 then 15 else 14)

abbrev pub wide_bytes : Description → Option FormatDecl → List Part → List ℕ
wide_bytes d None ps = []
wide_bytes d (Some f) ps = if f.width == 64 then to_le_bytes w64 (format_word d f ps) else to_le_bytes w32 (format_word d f ps)

-- the bytes of a bundle that has a spelling
abbrev pub spell : Description → Bundle → List ℕ
spell d (bundle.Core i) = three_bytes (word i)
spell d (bundle.One p) = three_bytes (op_word p.code p.fields)
spell d (bundle.Wide f ps) = wide_bytes d (slice_get d.formats f) ps.items

-- ---- which bundles have a spelling

-- each field is a number of its argument, and 0 where there is none
abbrev pub fields_fit : Description → List Access → List ℕ → Bool
fields_fit d [] [] = true
fields_fit d [] (f ∷ fs) = f == 0 && fields_fit d [] fs
fields_fit d (a ∷ as') [] = false
fields_fit d (a ∷ as') (f ∷ fs) = nat_lt f (limit d a.kind) && fields_fit d as' fs

-- three fields, which fit the code
abbrev pub part_fits : Description → Part → Bool
part_fits d p = length p.fields == 3 && fields_fit d (args_of d p.code) p.fields

-- the slot lists the code
abbrev pub is_listed : SlotDecl → Part → Bool
is_listed s p = nat_lt (place_of p.code s.codes) (length s.codes)

-- one part per slot, each listed and fitting
abbrev pub slots_fit : Description → List SlotDecl → List Part → Bool
slots_fit d [] [] = true
slots_fit d (s ∷ ss) (p ∷ ps) = (is_listed s p && part_fits d p) && slots_fit d ss ps
slots_fit d _ _ = false

-- no register is written twice
abbrev pub writes_differ : Description → List Part → Bool
writes_differ d ps = all_differ same_spot (flat_map (written_registers d) ps)

abbrev pub HasWide : Description → Option FormatDecl → List Part → Type 0
HasWide d None ps = ⊥
HasWide d (Some f) ps = IsTrue (slots_fit d f.slots ps) × IsTrue (writes_differ d ps)

-- a code that may stand alone: an operation that is declared
abbrev pub IsOp : Description → Code → Type 0
IsOp d (code.Core c) = ⊥
IsOp d (code.Op i) = i < length d.ops

abbrev pub HasSpelling : Description → Bundle → Type 0
HasSpelling d (bundle.Core i) = Fits i
HasSpelling d (bundle.One p) = IsOp d p.code × IsTrue (part_fits d p) × IsTrue (writes_differ d (p ∷ []))
HasSpelling d (bundle.Wide f ps) = (f < length d.formats) × HasWide d (slice_get d.formats f) ps.items
