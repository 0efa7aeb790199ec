-- Bundles and slots worked by hand.
use Rattle.std.proofs.Common.{◌≡◌, ℕ, true, false, List, [], ◌∷◌, Some, map, pos, negsuc, refl, sum_by}
use Rattle.std.specs.Prelude.{codes}
use Rattle.xt_isa.specs.declared.instruction.Inst.TheVariants.{Add}
use Rattle.tie_desc.specs.Names.{is_word}
use Rattle.tie_desc.specs.Mnemonics.{is_core_mnemonic, core_mnemonics}
use Rattle.tie_desc.specs.Description.{Description}
use Rattle.tie_desc.specs.Operands.{range_value}
use Rattle.tie_desc.specs.Slots.{slot_bits, code_bits, code_space, longest}
use Rattle.tie_desc.specs.Invariant.{is_direction, numbered}
use Rattle.tie_desc.specs.Spelling.{spell, part_fits, slots_fit, writes_differ}
use Rattle.tie_desc.specs.declared.declarations.Kind.TheVariants as kind
use Rattle.tie_desc.specs.declared.declarations.Operand.{Operand}
use Rattle.tie_desc.specs.declared.declarations.OpDecl.{OpDecl}
use Rattle.tie_desc.specs.declared.formats.SlotCore.TheVariants as core
use Rattle.tie_desc.specs.declared.formats.Code.{Code}
use Rattle.tie_desc.specs.declared.formats.Code.TheVariants as code
use Rattle.tie_desc.specs.declared.formats.SlotDecl.{SlotDecl}
use Rattle.tie_desc.specs.declared.formats.FormatDecl.{FormatDecl}
use Rattle.tie_desc.specs.declared.bundle.Part.{Part}
use Rattle.tie_desc.specs.declared.bundle.Bundle.{Bundle}
use Rattle.tie_desc.specs.declared.bundle.Bundle.TheVariants as bundle

abbrev written : Operand
written = record { name = codes "d"; kind = kind.Ar; reads = false; writes = true; use_m = false; def_m = false }

abbrev read : Operand
read = record { name = codes "s"; kind = kind.Ar; reads = true; writes = false; use_m = false; def_m = false }

abbrev operation : List ℕ → List Operand → OpDecl
operation name args = record { name = name; args = args; links = []; results = [] }

abbrev slot : List Code → SlotDecl
slot listed = record { name = codes "f"; codes = listed }

abbrev format : ℕ → ℕ → List SlotDecl → FormatDecl
format width number slots = record { name = codes "F"; width = width; number = number; slots = slots }

abbrev with_ops : List OpDecl → List FormatDecl → Description
with_ops ops formats = record { states = []; files = []; ranges = []; ops = ops; formats = formats; ins = []; outs = [] }

abbrev part : Code → ℕ → ℕ → ℕ → Part
part c a b e = record { code = c; fields = a ∷ b ∷ e ∷ [] }

abbrev wide : ℕ → List Part → Bundle
wide f parts = bundle.Wide f (record { items = parts })

-- ---- two operations `d, s`, and a format of 32 bits that holds both

abbrev two_moves : Description
two_moves =
    with_ops (operation (codes "MOVX") (written ∷ read ∷ []) ∷ operation (codes "MOVY") (written ∷ read ∷ []) ∷ [])
    (format 32 0 (slot (code.Op 0 ∷ []) ∷ slot (code.Op 1 ∷ []) ∷ []) ∷ [])

-- F { MOVX a2, a3 ; MOVY a3, a2 }
abbrev exchange : List Part
exchange = part (code.Op 0) 2 3 0 ∷ part (code.Op 1) 3 2 0 ∷ []

exchange_bytes : spell two_moves (wide 0 exchange) ≡ 0x0E ∷ 0x32 ∷ 0x23 ∷ 0x00 ∷ []
unfolding longest code_bits code_space
exchange_bytes = refl

exchange_fits : slots_fit two_moves (slot (code.Op 0 ∷ []) ∷ slot (code.Op 1 ∷ []) ∷ []) exchange ≡ true
exchange_fits = refl

exchange_differs : writes_differ two_moves exchange ≡ true
exchange_differs = refl

-- F { MOVX a2, a3 ; MOVY a2, a3 } writes a2 twice
same_register : writes_differ two_moves (part (code.Op 0) 2 3 0 ∷ part (code.Op 1) 2 3 0 ∷ []) ≡ false
same_register = refl

-- a2 has no third field
third_field : part_fits two_moves (part (code.Op 0) 2 3 1) ≡ false
third_field = refl

no_register : part_fits two_moves (part (code.Op 0) 16 3 0) ≡ false
no_register = refl

-- ---- the first operation alone, on a4, a2, a3; the eighteenth; a core instruction

abbrev one_add : Description
one_add = with_ops (operation (codes "MYADD") (written ∷ read ∷ read ∷ []) ∷ []) []

add_bytes : spell one_add (bundle.One (part (code.Op 0) 4 2 3)) ≡ 0x30 ∷ 0x42 ∷ 0x06 ∷ []
add_bytes = refl

eighteenth_bytes : spell one_add (bundle.One (part (code.Op 17) 4 2 3)) ≡ 0x30 ∷ 0x42 ∷ 0x17 ∷ []
eighteenth_bytes = refl

core_bytes : spell one_add (bundle.Core (Add 4 2 3)) ≡ 0x30 ∷ 0x42 ∷ 0x80 ∷ []
core_bytes = refl

-- ---- one register each, in 64 bits: F { TAP a3 ; DEC a2 }

abbrev tap_and_dec : Description
tap_and_dec =
    with_ops (operation (codes "TAP") (written ∷ []) ∷ operation (codes "DEC") (written ∷ []) ∷ [])
    (format 64 0 (slot (code.Op 0 ∷ []) ∷ slot (code.Op 1 ∷ []) ∷ []) ∷ [])

tap_bytes : spell tap_and_dec (wide 0 (part (code.Op 0) 3 0 0 ∷ part (code.Op 1) 2 0 0 ∷ [])) ≡ 0x0F ∷ 0x23 ∷ 0x00 ∷ 0x00 ∷ 0x00 ∷ 0x00 ∷ 0x00 ∷ 0x00 ∷ []
unfolding longest code_bits code_space
tap_bytes = refl

-- ---- core operations in a slot: one bit says which, then r, s, t

abbrev add_or_nop : Description
add_or_nop = with_ops [] (format 32 0 [] ∷ format 32 1 (slot (code.Core core.Add ∷ code.Core core.Nop ∷ []) ∷ []) ∷ [])

slot_add_bytes : spell add_or_nop (wide 1 (part (code.Core core.Add) 4 2 3 ∷ [])) ≡ 0x1E ∷ 0x48 ∷ 0x06 ∷ 0x00 ∷ []
unfolding longest code_bits code_space
slot_add_bytes = refl

slot_nop_bytes : spell add_or_nop (wide 1 (part (code.Core core.Nop) 0 0 0 ∷ [])) ≡ 0x1E ∷ 0x01 ∷ 0x00 ∷ 0x00 ∷ []
unfolding longest code_bits code_space
slot_nop_bytes = refl

-- ---- bits of slots: two for four codes, three for five, and twelve for three fields

abbrev four_codes : List Code
four_codes = code.Core core.Add ∷ code.Core core.Sub ∷ code.Core core.And ∷ code.Core core.Or ∷ []

four_slots : sum_by (slot_bits one_add) (slot four_codes ∷ slot four_codes ∷ slot four_codes ∷ slot four_codes ∷ []) ≡ 56
unfolding longest code_bits
four_slots = refl

five_codes : slot_bits one_add (slot (code.Core core.Xor ∷ four_codes)) ≡ 15
unfolding longest code_bits
five_codes = refl

-- ---- single rules

-- from -4 in steps of 2, the values are -4, -2, 0, 2
fourth_value : range_value (Some (record { name = codes "R"; low = negsuc 3; step = 2; count = 4 })) 3 ≡ pos 2
fourth_value = refl

mnemonic_in_any_case : map is_core_mnemonic (codes "Addi" ∷ codes "CALLX0" ∷ codes "simcall" ∷ codes "ADDIX" ∷ codes "MADD" ∷ [])
    ≡ true ∷ true ∷ true ∷ false ∷ false ∷ []
unfolding core_mnemonics is_core_mnemonic
mnemonic_in_any_case = refl

-- two formats of 32 bits around one of 64
numbers_by_width : numbered [] (format 32 0 [] ∷ format 64 0 [] ∷ format 32 1 [] ∷ []) ≡ true
numbers_by_width = refl

number_taken : numbered [] (format 32 0 [] ∷ format 32 0 [] ∷ []) ≡ false
number_taken = refl

immediate_is_read : is_direction (kind.Range 0) true true ≡ false
immediate_is_read = refl

words : map is_word (codes "a" ∷ codes "A_1" ∷ codes "" ∷ codes "_a" ∷ codes "1a" ∷ codes "a-b" ∷ codes "abcdefghijklmnopqrstuvwxyz012345" ∷ codes "abcdefghijklmnopqrstuvwxyz0123456" ∷ [])
    ≡ true ∷ true ∷ false ∷ false ∷ false ∷ false ∷ true ∷ false ∷ []
words = refl
