-- Worked values of each definition, by computation.
use Rattle.std.proofs.Common.{◌≡◌, ◌^◌, ◌-◌, [], ◌∷◌, pos, negsuc, refl}
use Rattle.tie_expr.specs.Operators.{one_value, two_value, choose_value, join_value, part_value, resize_value, lookup_value, repeat_value, twos_complement, modulo_power, mul_value}
use Rattle.tie_expr.specs.Meaning.{input_meaning, select_meaning, constant_meaning}
use Rattle.tie_expr.specs.Substitute.{substitute_meaning, substitute_inputs, substitute_size}
use Rattle.tie_expr.specs.declared.ops.Op1.TheVariants as one
use Rattle.tie_expr.specs.declared.ops.Op2.TheVariants as two

-- each bit turned
not_1 : one_value one.Not 1 0 ≡ 1
not_1 = refl

not_33 : one_value one.Not 33 1 ≡ 0x1_ffff_fffe
not_33 = refl

-- the reductions
and_all : one_value one.AndAll 31 0x7fff_ffff ≡ 1
and_all = refl

and_most : one_value one.AndAll 32 0x7fff_ffff ≡ 0
and_most = refl

or_all : one_value one.OrAll 2 2 ≡ 1
or_all = refl

xor_all_even : one_value one.XorAll 127 0x6000 ≡ 0
unfolding lib.Count.ones
xor_all_even = refl

xor_all_odd : one_value one.XorAll 127 0x7000 ≡ 1
unfolding lib.Count.ones
xor_all_odd = refl

-- a sum and a difference that wrap
add_128 : two_value two.Add 128 (2 ^ 128 - 1) 2 ≡ 1
add_128 = refl

sub_128 : two_value two.Sub 128 0 1 ≡ 2 ^ 128 - 1
sub_128 = refl

mul_64 : two_value two.Mul 64 (2 ^ 64 - 1) (2 ^ 64 - 1) ≡ 1
mul_64 = refl

-- shifts by less than the width, by the width, and by more
shl_31 : two_value two.Shl 32 1 31 ≡ 0x8000_0000
shl_31 = refl

shl_32 : two_value two.Shl 32 1 32 ≡ 0
shl_32 = refl

shr_128 : two_value two.Shr 128 (2 ^ 128 - 1) 128 ≡ 0
shr_128 = refl

shr_127 : two_value two.Shr 128 (2 ^ 128 - 1) 127 ≡ 1
shr_127 = refl

-- any number that isn't 0 is a condition that holds
choose_two : choose_value 2 5 9 ≡ 5
choose_two = refl

join_bytes : join_value 0xab 8 0xcd ≡ 0xabcd
join_bytes = refl

part_middle : part_value 0xabcd 11 4 ≡ 0xbc
part_middle = refl

-- no sign is copied
resize_wider : resize_value 8 0xff 16 ≡ 0xff
resize_wider = refl

resize_cut : resize_value 16 0xabcd 8 ≡ 0xcd
resize_cut = refl

lookup_last : lookup_value (7 ∷ 8 ∷ 9 ∷ []) 2 ≡ 9
lookup_last = refl

lookup_beyond : lookup_value (7 ∷ 8 ∷ 9 ∷ []) 3 ≡ 0
lookup_beyond = refl

repeat_three : repeat_value 4 0xa 3 ≡ 0xaaa
repeat_three = refl

-- two's complement
minus_one : twos_complement 4 15 ≡ negsuc 0
minus_one = refl

lowest : twos_complement 8 128 ≡ negsuc 127
lowest = refl

highest : twos_complement 8 127 ≡ pos 127
highest = refl

minus_two : modulo_power (negsuc 1) 8 ≡ 254
minus_two = refl

-- -1 times -1, -1 times 3, the lowest number squared, and 15 times 3 without sign
mul_minus : mul_value 4 15 4 15 1 ≡ 1
mul_minus = refl

mul_mixed : mul_value 4 15 4 3 1 ≡ 253
mul_mixed = refl

mul_lowest : mul_value 64 (2 ^ 63) 64 (2 ^ 63) 1 ≡ 2 ^ 126
mul_lowest = refl

mul_plain : mul_value 4 15 4 3 0 ≡ 45
mul_plain = refl

-- the arm whose number is 1
select_second : (select_meaning (constant_meaning (record { width = 1; value = 1 })) (constant_meaning (record { width = 8; value = 5 }) ∷ constant_meaning (record { width = 8; value = 6 }) ∷ [])).at [] ≡ 6
select_second = refl

-- 4 of an operator and twice 4 of inputs, of which each gives way to an argument of size 60
size_replaced : substitute_size 12 (record { index = 0; width = 8 } ∷ record { index = 1; width = 8 } ∷ []) (60 ∷ 60 ∷ []) ≡ 124
size_replaced = refl

inputs_replaced : substitute_inputs (record { index = 1; width = 8 } ∷ []) ([] ∷ (record { index = 3; width = 8 } ∷ []) ∷ []) ≡ record { index = 3; width = 8 } ∷ []
inputs_replaced = refl

-- the input at 1 reads the second argument
input_replaced : (substitute_meaning (input_meaning 1 8) (constant_meaning (record { width = 8; value = 5 }) ∷ constant_meaning (record { width = 8; value = 6 }) ∷ [])).at [] ≡ 6
input_replaced = refl
