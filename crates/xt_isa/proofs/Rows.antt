-- Words worked by hand from the manual's formats; the tests have one of each instruction.
use Rattle.std.proofs.Common.{◌≡◌, pos, negsuc, refl, [], ◌∷◌}
use Rattle.xt_isa.specs.declared.instruction.Inst.TheVariants.{Add, Addi, Bbsi, Bgeui, Bnei, Bnez, Call0, Extui, J, L32i, L32r, Movi, Sext, Simcall, Slli, Srai}
use Rattle.xt_isa.specs.Constants.{constant_code, unsigned_code}
use Rattle.xt_isa.specs.Table.{Spells, word}

movi_five : Spells (Movi 2 (pos 5)) (0x22 ∷ 0xA0 ∷ 0x05 ∷ [])
movi_five = refl

movi_minus_one : Spells (Movi 3 (negsuc 0)) (0x32 ∷ 0xAF ∷ 0xFF ∷ [])
movi_minus_one = refl

addi_minus_one : Spells (Addi 4 2 (negsuc 0)) (0x42 ∷ 0xC2 ∷ 0xFF ∷ [])
addi_minus_one = refl

add_two : Spells (Add 4 2 3) (0x30 ∷ 0x42 ∷ 0x80 ∷ [])
add_two = refl

simcall : word Simcall ≡ 0x005100
simcall = refl

-- the field holds 32 - 5 = 27 = 16 + 11
slli_five : Spells (Slli 4 2 (pos 5)) (0xB0 ∷ 0x42 ∷ 0x11 ∷ [])
slli_five = refl

srai_twenty_one : Spells (Srai 4 3 (pos 21)) (0x30 ∷ 0x45 ∷ 0x31 ∷ [])
srai_twenty_one = refl

sext_fifteen : Spells (Sext 4 2 (pos 15)) (0x80 ∷ 0x42 ∷ 0x23 ∷ [])
sext_fifteen = refl

extui_six_bits_from_twenty : Spells (Extui 4 3 (pos 20) (pos 6)) (0x30 ∷ 0x44 ∷ 0x55 ∷ [])
extui_six_bits_from_twenty = refl

-- two words back: fourteen ones, then 0xFFFE, then two zeros
l32r_minus_eight : Spells (L32r 3 (negsuc 7)) (0x31 ∷ 0xFE ∷ 0xFF ∷ [])
l32r_minus_eight = refl

l32i_four : Spells (L32i 2 1 (pos 4)) (0x22 ∷ 0x21 ∷ 0x01 ∷ [])
l32i_four = refl

call0_four_hundred : Spells (Call0 (pos 400)) (0x05 ∷ 0x19 ∷ 0x00 ∷ [])
call0_four_hundred = refl

-- a jump to itself
j_minus_four : Spells (J (negsuc 3)) (0x06 ∷ 0xFF ∷ 0xFF ∷ [])
j_minus_four = refl

bnez_minus_ten : Spells (Bnez 2 (negsuc 9)) (0x56 ∷ 0x62 ∷ 0xFF ∷ [])
bnez_minus_ten = refl

bnei_minus_one : Spells (Bnei 2 (negsuc 0) (pos 7)) (0x66 ∷ 0x02 ∷ 0x07 ∷ [])
unfolding constant_code
bnei_minus_one = refl

bgeui_65536 : Spells (Bgeui 2 (pos 65536) (pos 7)) (0xF6 ∷ 0x12 ∷ 0x07 ∷ [])
unfolding unsigned_code
bgeui_65536 = refl

bbsi_twenty_one : Spells (Bbsi 2 (pos 21) (negsuc 99)) (0x57 ∷ 0xF2 ∷ 0x9C ∷ [])
bbsi_twenty_one = refl
