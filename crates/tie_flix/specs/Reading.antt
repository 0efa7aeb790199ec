-- What bytes read as, field by field: the decoder's own functions are these. No part of the spelling; laws join the two.
use Rattle.std.specs.Prelude.{ℕ, ◌+◌, ◌-◌, ◌*◌, ◌/◌, ◌%◌, Bool, List, [], ◌∷◌, ◌++◌, length, Option, Some, None, nat_lt, nat_le, ◌==◌, ◌&&◌, slice_get, slice_index, option_and_then, if◌then◌else◌}
use Rattle.std.specs.Int.{from_le_bytes, w32, w64}
use Rattle.xt_isa.specs.declared.instruction.Inst.{Inst}
use Rattle.xt_isa.specs.Reading as core
use Rattle.tie_desc.specs.Description.{Description}
use Rattle.tie_desc.specs.Slots.{args_of, longest, code_space, format_place}
use Rattle.tie_desc.specs.Spelling.{fields_fit, writes_differ}
use Rattle.tie_desc.specs.declared.formats.Code.{Code}
use Rattle.tie_desc.specs.declared.formats.Code.TheVariants as code
use Rattle.tie_desc.specs.declared.formats.SlotDecl.{SlotDecl}
use Rattle.tie_desc.specs.declared.formats.FormatDecl.{FormatDecl}
use Rattle.tie_desc.specs.declared.bundle.Part.{Part}
use Rattle.tie_desc.specs.declared.bundle.Bundle.TheVariants as bundle
use Rattle.tie_desc.specs.declared.bundle.Fetched.{Fetched}

-- the lowest field of some bits, 0 where there is none
abbrev pub field : Bool → ℕ → ℕ
field used bits = if used then bits % 16 else 0

-- the bits above it
abbrev pub above : Bool → ℕ → ℕ
above used bits = if used then bits / 16 else bits

abbrev pub part : Code → ℕ → ℕ → ℕ → Part
part c first second third = record { code = c; fields = first ∷ second ∷ third ∷ [] }

abbrev pub fits : Description → Part → Bool
fits d p = fields_fit d (args_of d p.code) p.fields

-- a part that fits, with the bits above it
abbrev pub fitting : Description → Part → ℕ → Option (Part × ℕ)
fitting d p rest = if fits d p then Some (p, rest) else None

-- a code with its fields, of which the slot has n
abbrev pub read_fields : Description → ℕ → ℕ → Code → Option (Part × ℕ)
read_fields d n bits c =
    let second = above (nat_lt 0 n) bits in
    let third = above (nat_lt 1 n) second in
    fitting d (part c (field (nat_lt 0 n) bits) (field (nat_lt 1 n) second) (field (nat_lt 2 n) third)) (above (nat_lt 2 n) third)

unfoldable pub read_slot : Description → SlotDecl → ℕ → Option (Part × ℕ)
read_slot d s bits =
    option_and_then (read_fields d (longest d s.codes) (bits / code_space (length s.codes))) (slice_get s.codes (bits % code_space (length s.codes)))

-- the parts so far, then those of the slots; no bit is left
abbrev pub read_slots : Description → List SlotDecl → List Part → ℕ → Option (List Part)
read_slots d [] parts bits = if bits == 0 then Some parts else None
read_slots d (s ∷ ss) parts bits = option_and_then (λ x. read_slots d ss (parts ++ x.0 ∷ []) x.1) (read_slot d s bits)

abbrev pub wide_of : Description → ℕ → ℕ → List Part → Option Fetched
wide_of d place size ps =
    if writes_differ d ps then Some (record { bundle = bundle.Wide place (record { items = ps }); length = size }) else None

abbrev pub read_format : Description → ℕ → ℕ → ℕ → FormatDecl → Option Fetched
read_format d place size bits f = option_and_then (wide_of d place size) (read_slots d f.slots [] bits)

-- a word of a width in bits: four bits that told it, four for the format's number, the slots
unfoldable pub read_wide : Description → ℕ → ℕ → ℕ → Option Fetched
read_wide d width size word =
    let place = format_place width (word / 16 % 16) d.formats in
    option_and_then (read_format d place size (word / 256)) (slice_get d.formats place)

abbrev pub one_of : Description → Part → Option Fetched
one_of d p = if fits d p && writes_differ d (p ∷ []) then Some (record { bundle = bundle.One p; length = 3 }) else None

-- the number of the operation that a third byte names, and whether three bytes are an operation's
abbrev pub op_number : ℕ → ℕ
op_number c = c / 16 + 16 * (c % 16 - 6)

abbrev pub is_op : Description → ℕ → ℕ → Bool
is_op d a c = a % 16 == 0 && nat_le 6 (c % 16) && nat_lt (c % 16) 8 && nat_lt (op_number c) (length d.ops)

unfoldable pub read_op : Description → ℕ → ℕ → ℕ → Option Fetched
read_op d a b c = if is_op d a c then one_of d (part (code.Op (op_number c)) (b / 16) (b % 16) (a / 16)) else None

abbrev pub read_core : ℕ → ℕ → ℕ → Option Inst
read_core a b c = core.read_fields (a % 16) (a / 16) (b % 16) (b / 16) (c % 16) (c / 16)

abbrev pub core_or : Option Inst → Option Fetched → Option Fetched
core_or (Some i) other = Some (record { bundle = bundle.Core i; length = 3 })
core_or None other = other

unfoldable pub read_three : Description → ℕ → ℕ → ℕ → Option Fetched
read_three d a b c = core_or (read_core a b c) (read_op d a b c)

abbrev pub read_long : Description → List ℕ → Option Fetched
read_long d (a ∷ b ∷ c ∷ e ∷ f ∷ g ∷ h ∷ i ∷ rest) = read_wide d 64 8 (from_le_bytes w64 (a ∷ b ∷ c ∷ e ∷ f ∷ g ∷ h ∷ i ∷ []))
read_long d _ = None

abbrev pub read_short : Description → List ℕ → Option Fetched
read_short d (a ∷ b ∷ c ∷ e ∷ rest) = read_wide d 32 4 (from_le_bytes w32 (a ∷ b ∷ c ∷ e ∷ []))
read_short d _ = None

abbrev pub read_brief : Description → List ℕ → Option Fetched
read_brief d (a ∷ b ∷ c ∷ rest) = read_three d a b c
read_brief d _ = None

-- the bundle that the bytes begin with: the lowest four bits tell how many bytes it has
unfoldable pub fetch : Description → List ℕ → Option Fetched
fetch d bytes =
    let op0 = slice_index bytes 0 % 16 in
    if op0 == 15 then read_long d bytes else (if op0 == 14 then read_short d bytes else read_brief d bytes)
