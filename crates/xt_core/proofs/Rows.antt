-- The definitions at worked views.
use Rattle.std.proofs.Common.{◌≡◌, ℕ, Some, None, [], ◌∷◌, List, pos, negsuc, slice_index, true, false, refl}
use Rattle.xt_isa.specs.declared.instruction.Inst.TheVariants.{Add, Addi, Movi, Abs, Ssl, Callx0, Srai, Srl, Sll, Src, Mul16s, Sext, Min, Minu, Movltz, Extui, L32r, L16si, S16i, Call0, J, Beqz, Bgeui, Blt, Bltu, Ball, Bbc}
use Rattle.xt_core.specs.declared.action.Access.TheVariants.{Load, Store}
use Rattle.xt_core.specs.View.{View}
use Rattle.xt_core.specs.Action.{action}

-- a0 is 6, a1 is 80000000, a2 is 12345678, a3 is 9ABCDEF0, a4 is FFFFFFFF; SAR is 8, the pc 5
values : List ℕ
values = 6 ∷ 0x8000_0000 ∷ 0x1234_5678 ∷ 0x9ABC_DEF0 ∷ 0xFFFF_FFFF ∷ []

worked : View
unfolding values
worked = record { pc = 5; ar = λ n. slice_index values n; sar = 8 }

-- -1 fills a register with ones, and sums wrap
minus_one : (action (Movi 3 (negsuc 0)) worked).write ≡ Some (3, 0xFFFF_FFFF)
unfolding worked values
minus_one = refl

sum_wraps : (action (Addi 5 4 (pos 5)) worked).write ≡ Some (5, 4)
unfolding worked values
sum_wraps = refl

twice : (action (Add 5 4 4) worked).write ≡ Some (5, 0xFFFF_FFFE)
unfolding worked values
twice = refl

-- the least number is its own absolute value
least : (action (Abs 4 1) worked).write ≡ Some (4, 0x8000_0000)
unfolding worked values
least = refl

-- SAR may be 32
left_by_none : (action (Ssl 5) worked).sar ≡ Some 32
unfolding worked values
left_by_none = refl

-- shifts of 64 bits by SAR, and one filled with the sign
across : (action (Src 4 2 3) worked).write ≡ Some (4, 0x789A_BCDE)
unfolding worked values
across = refl

right : (action (Srl 4 3) worked).write ≡ Some (4, 0x009A_BCDE)
unfolding worked values
right = refl

left : (action (Sll 4 2) (record worked { sar = 28 })).write ≡ Some (4, 0x2345_6780)
unfolding worked values
left = refl

with_sign : (action (Srai 4 3 (pos 4)) worked).write ≡ Some (4, 0xF9AB_CDEF)
unfolding worked values
with_sign = refl

-- -8464 times 22136
product : (action (Mul16s 4 3 2) worked).write ≡ Some (4, 0xF4D5_2080)
unfolding worked values
product = refl

-- the bit at 15 above it, and a field of bits
extended : (action (Sext 4 3 (pos 15)) worked).write ≡ Some (4, 0xFFFF_DEF0)
unfolding worked values
extended = refl

field : (action (Extui 4 3 (pos 12) (pos 5)) worked).write ≡ Some (4, 0xD)
unfolding worked values
field = refl

-- with sign and without
lesser : (action (Min 4 0 3) worked).write ≡ Some (4, 0x9ABC_DEF0)
unfolding worked values
lesser = refl

lesser_unsigned : (action (Minu 4 0 3) worked).write ≡ Some (4, 6)
unfolding worked values
lesser_unsigned = refl

moved_where_negative : (action (Movltz 4 0 1) worked).write ≡ Some (4, 6)
unfolding worked values
moved_where_negative = refl

-- jumps: to the old register, from the pc cut to a multiple of four, from pc + 4
through_itself : (action (Callx0 0) worked).target ≡ Some 6
unfolding worked values
through_itself = refl

way_back : (action (Callx0 0) worked).write ≡ Some (0, 8)
unfolding worked values
way_back = refl

called : (action (Call0 (negsuc 3)) worked).target ≡ Some 4
unfolding worked values
called = refl

jumped : (action (J (negsuc 8)) worked).target ≡ Some 0
unfolding worked values
jumped = refl

-- branches: taken, or on behind the instruction
not_zero : (action (Beqz 0 (pos 16)) worked).target ≡ None
unfolding worked values
not_zero = refl

below_with_sign : (action (Blt 3 0 (pos 16)) worked).target ≡ Some 25
unfolding worked values
below_with_sign = refl

not_below : (action (Bltu 3 0 (pos 16)) worked).target ≡ None
unfolding worked values
not_below = refl

not_below_constant : (action (Bgeui 3 (pos 65536) (pos 16)) worked).target ≡ Some 25
unfolding worked values
not_below_constant = refl

-- the bits of 6 are all in FFFFFFFF
all_bits : (action (Ball 4 0 (pos 16)) worked).target ≡ Some 25
unfolding worked values
all_bits = refl

-- the bit of 9ABCDEF0 at 6, which is 1
bit_at_six : (action (Bbc 3 0 (pos 16)) worked).target ≡ None
unfolding worked values
bit_at_six = refl

-- accesses: a word from before the pc, two bytes with their sign, two bytes stored
from_before : (action (L32r 4 (negsuc 7)) worked).access ≡ Load 0 4 false 4
unfolding worked values
from_before = refl

with_offset : (action (L16si 4 0 (pos 2)) worked).access ≡ Load 8 2 true 4
unfolding worked values
with_offset = refl

stored : (action (S16i 2 4 (pos 6)) worked).access ≡ Store 5 2 0x1234_5678
unfolding worked values
stored = refl
