-- The core table: of each instruction the operands that it may have, and its one word.
use Rattle.std.specs.Prelude.{◌≡◌, ℕ, ◌+◌, ◌-◌, ◌/◌, ◌%◌, ◌<◌, List, unsigned_abs}
use Rattle.xt_isa.specs.declared.instruction.Inst.{Inst}
use Rattle.xt_isa.specs.declared.instruction.Inst.TheVariants.{And, Or, Xor, Add, Addx2, Addx4, Addx8, Sub, Subx2, Subx4, Subx8, Neg, Abs, Ssr, Ssl, Ssai, Ret, Jx, Callx0, Nop, Simcall, Slli, Srai, Srli, Src, Srl, Sll, Sra, Mul16u, Mul16s, Mull, Sext, Min, Max, Minu, Maxu, Moveqz, Movnez, Movltz, Movgez, Extui, L32r, L8ui, L16ui, L32i, L16si, S8i, S16i, S32i, Movi, Addi, Addmi, Call0, J, Beqz, Bnez, Bltz, Bgez, Beqi, Bnei, Blti, Bgei, Bltui, Bgeui, Bnone, Beq, Blt, Bltu, Ball, Bbc, Bany, Bne, Bge, Bgeu, Bnall, Bbs, Bbci, Bbsi}
use Rattle.xt_isa.specs.Constants.{IsConstant, IsUnsignedConstant, constant_code, unsigned_code}
use Rattle.xt_isa.specs.Formats.{bri12, bri8, call_format, number, ri16, rri8, rrr}
use Rattle.xt_isa.specs.Numbers.{IsBackward, IsBetween, IsMultiple, IsSigned, twos_complement}

-- a0 to a15
abbrev pub IsRegister : ℕ → Type 0
IsRegister n = n < 16

-- the instruction's pattern has these operands
abbrev pub Fits : Inst → Type 0
-- op0 0, op1 0: logic, sums, differences
Fits (And r s t) = IsRegister r × IsRegister s × IsRegister t
Fits (Or r s t) = IsRegister r × IsRegister s × IsRegister t
Fits (Xor r s t) = IsRegister r × IsRegister s × IsRegister t
Fits (Add r s t) = IsRegister r × IsRegister s × IsRegister t
Fits (Addx2 r s t) = IsRegister r × IsRegister s × IsRegister t
Fits (Addx4 r s t) = IsRegister r × IsRegister s × IsRegister t
Fits (Addx8 r s t) = IsRegister r × IsRegister s × IsRegister t
Fits (Sub r s t) = IsRegister r × IsRegister s × IsRegister t
Fits (Subx2 r s t) = IsRegister r × IsRegister s × IsRegister t
Fits (Subx4 r s t) = IsRegister r × IsRegister s × IsRegister t
Fits (Subx8 r s t) = IsRegister r × IsRegister s × IsRegister t
Fits (Neg r t) = IsRegister r × IsRegister t
Fits (Abs r t) = IsRegister r × IsRegister t
-- op0 0, op1 0, op2 4: the shift amount register
Fits (Ssr s) = IsRegister s
Fits (Ssl s) = IsRegister s
Fits (Ssai amount) = IsBetween 0 31 amount
-- op0 0, op1 0, op2 0: jumps through a register, and what has no operand
Fits Ret = Unit {0}
Fits (Jx s) = IsRegister s
Fits (Callx0 s) = IsRegister s
Fits Nop = Unit {0}
Fits Simcall = Unit {0}
-- op0 0, op1 1: shifts, products of halves
Fits (Slli r s amount) = IsRegister r × IsRegister s × IsBetween 1 31 amount
Fits (Srai r t amount) = IsRegister r × IsRegister t × IsBetween 0 31 amount
Fits (Srli r t amount) = IsRegister r × IsRegister t × IsBetween 0 15 amount
Fits (Src r s t) = IsRegister r × IsRegister s × IsRegister t
Fits (Srl r t) = IsRegister r × IsRegister t
Fits (Sll r s) = IsRegister r × IsRegister s
Fits (Sra r t) = IsRegister r × IsRegister t
Fits (Mul16u r s t) = IsRegister r × IsRegister s × IsRegister t
Fits (Mul16s r s t) = IsRegister r × IsRegister s × IsRegister t
-- op0 0, op1 2: a product
Fits (Mull r s t) = IsRegister r × IsRegister s × IsRegister t
-- op0 0, op1 3: sign extension, minimum and maximum, conditional moves
Fits (Sext r s place) = IsRegister r × IsRegister s × IsBetween 7 22 place
Fits (Min r s t) = IsRegister r × IsRegister s × IsRegister t
Fits (Max r s t) = IsRegister r × IsRegister s × IsRegister t
Fits (Minu r s t) = IsRegister r × IsRegister s × IsRegister t
Fits (Maxu r s t) = IsRegister r × IsRegister s × IsRegister t
Fits (Moveqz r s t) = IsRegister r × IsRegister s × IsRegister t
Fits (Movnez r s t) = IsRegister r × IsRegister s × IsRegister t
Fits (Movltz r s t) = IsRegister r × IsRegister s × IsRegister t
Fits (Movgez r s t) = IsRegister r × IsRegister s × IsRegister t
-- op0 0, op1 4 and 5: a field of bits
Fits (Extui r t shift width) = IsRegister r × IsRegister t × IsBetween 0 31 shift × IsBetween 1 16 width
-- op0 1: a word from before the pc
Fits (L32r t target) = IsRegister t × IsBackward 262144 target × IsMultiple 4 target
-- op0 2: loads, stores, immediates
Fits (L8ui t s offset) = IsRegister t × IsRegister s × IsBetween 0 255 offset
Fits (L16ui t s offset) = IsRegister t × IsRegister s × IsBetween 0 510 offset × IsMultiple 2 offset
Fits (L32i t s offset) = IsRegister t × IsRegister s × IsBetween 0 1020 offset × IsMultiple 4 offset
Fits (L16si t s offset) = IsRegister t × IsRegister s × IsBetween 0 510 offset × IsMultiple 2 offset
Fits (S8i t s offset) = IsRegister t × IsRegister s × IsBetween 0 255 offset
Fits (S16i t s offset) = IsRegister t × IsRegister s × IsBetween 0 510 offset × IsMultiple 2 offset
Fits (S32i t s offset) = IsRegister t × IsRegister s × IsBetween 0 1020 offset × IsMultiple 4 offset
Fits (Movi t value) = IsRegister t × IsSigned 2048 value
Fits (Addi t s value) = IsRegister t × IsRegister s × IsSigned 128 value
Fits (Addmi t s value) = IsRegister t × IsRegister s × IsSigned 32768 value × IsMultiple 256 value
-- op0 5: a call
Fits (Call0 target) = IsSigned 524288 target × IsMultiple 4 target
-- op0 6: a jump, branches on one register
Fits (J target) = IsSigned 131072 target
Fits (Beqz s target) = IsRegister s × IsSigned 2048 target
Fits (Bnez s target) = IsRegister s × IsSigned 2048 target
Fits (Bltz s target) = IsRegister s × IsSigned 2048 target
Fits (Bgez s target) = IsRegister s × IsSigned 2048 target
Fits (Beqi s constant target) = IsRegister s × IsConstant constant × IsSigned 128 target
Fits (Bnei s constant target) = IsRegister s × IsConstant constant × IsSigned 128 target
Fits (Blti s constant target) = IsRegister s × IsConstant constant × IsSigned 128 target
Fits (Bgei s constant target) = IsRegister s × IsConstant constant × IsSigned 128 target
Fits (Bltui s constant target) = IsRegister s × IsUnsignedConstant constant × IsSigned 128 target
Fits (Bgeui s constant target) = IsRegister s × IsUnsignedConstant constant × IsSigned 128 target
-- op0 7: branches on two registers, or on one bit
Fits (Bnone s t target) = IsRegister s × IsRegister t × IsSigned 128 target
Fits (Beq s t target) = IsRegister s × IsRegister t × IsSigned 128 target
Fits (Blt s t target) = IsRegister s × IsRegister t × IsSigned 128 target
Fits (Bltu s t target) = IsRegister s × IsRegister t × IsSigned 128 target
Fits (Ball s t target) = IsRegister s × IsRegister t × IsSigned 128 target
Fits (Bbc s t target) = IsRegister s × IsRegister t × IsSigned 128 target
Fits (Bany s t target) = IsRegister s × IsRegister t × IsSigned 128 target
Fits (Bne s t target) = IsRegister s × IsRegister t × IsSigned 128 target
Fits (Bge s t target) = IsRegister s × IsRegister t × IsSigned 128 target
Fits (Bgeu s t target) = IsRegister s × IsRegister t × IsSigned 128 target
Fits (Bnall s t target) = IsRegister s × IsRegister t × IsSigned 128 target
Fits (Bbs s t target) = IsRegister s × IsRegister t × IsSigned 128 target
Fits (Bbci s bit target) = IsRegister s × IsBetween 0 31 bit × IsSigned 128 target
Fits (Bbsi s bit target) = IsRegister s × IsBetween 0 31 bit × IsSigned 128 target

-- the word of an instruction that fits. The field of an offset has it in units of what is loaded, SLLI's has 32 minus the
-- amount; an amount's or bit's fifth bit stands apart from the low four, MOVI's high four bits stand in s.
abbrev pub word : Inst → ℕ
-- op0 0, op1 0: logic, sums, differences
word (And r s t) = rrr 0 t s r 0 1
word (Or r s t) = rrr 0 t s r 0 2
word (Xor r s t) = rrr 0 t s r 0 3
word (Add r s t) = rrr 0 t s r 0 8
word (Addx2 r s t) = rrr 0 t s r 0 9
word (Addx4 r s t) = rrr 0 t s r 0 10
word (Addx8 r s t) = rrr 0 t s r 0 11
word (Sub r s t) = rrr 0 t s r 0 12
word (Subx2 r s t) = rrr 0 t s r 0 13
word (Subx4 r s t) = rrr 0 t s r 0 14
word (Subx8 r s t) = rrr 0 t s r 0 15
word (Neg r t) = rrr 0 t 0 r 0 6
word (Abs r t) = rrr 0 t 1 r 0 6
-- op0 0, op1 0, op2 4: the shift amount register
word (Ssr s) = rrr 0 0 s 0 0 4
word (Ssl s) = rrr 0 0 s 1 0 4
word (Ssai amount) = rrr 0 (unsigned_abs amount / 16) (unsigned_abs amount % 16) 4 0 4
-- op0 0, op1 0, op2 0: jumps through a register, and what has no operand
word Ret = rrr 0 8 0 0 0 0
word (Jx s) = rrr 0 10 s 0 0 0
word (Callx0 s) = rrr 0 12 s 0 0 0
word Nop = rrr 0 15 0 2 0 0
word Simcall = rrr 0 0 1 5 0 0
-- op0 0, op1 1: shifts, products of halves
word (Slli r s amount) = rrr 0 ((32 - unsigned_abs amount) % 16) s r 1 ((32 - unsigned_abs amount) / 16)
word (Srai r t amount) = rrr 0 t (unsigned_abs amount % 16) r 1 (2 + unsigned_abs amount / 16)
word (Srli r t amount) = rrr 0 t (unsigned_abs amount) r 1 4
word (Src r s t) = rrr 0 t s r 1 8
word (Srl r t) = rrr 0 t 0 r 1 9
word (Sll r s) = rrr 0 0 s r 1 10
word (Sra r t) = rrr 0 t 0 r 1 11
word (Mul16u r s t) = rrr 0 t s r 1 12
word (Mul16s r s t) = rrr 0 t s r 1 13
-- op0 0, op1 2: a product
word (Mull r s t) = rrr 0 t s r 2 8
-- op0 0, op1 3: sign extension, minimum and maximum, conditional moves
word (Sext r s place) = rrr 0 (unsigned_abs place - 7) s r 3 2
word (Min r s t) = rrr 0 t s r 3 4
word (Max r s t) = rrr 0 t s r 3 5
word (Minu r s t) = rrr 0 t s r 3 6
word (Maxu r s t) = rrr 0 t s r 3 7
word (Moveqz r s t) = rrr 0 t s r 3 8
word (Movnez r s t) = rrr 0 t s r 3 9
word (Movltz r s t) = rrr 0 t s r 3 10
word (Movgez r s t) = rrr 0 t s r 3 11
-- op0 0, op1 4 and 5: a field of bits
word (Extui r t shift width) = rrr 0 t (unsigned_abs shift % 16) r (4 + unsigned_abs shift / 16) (unsigned_abs width - 1)
-- op0 1: a word from before the pc
word (L32r t target) = ri16 1 t (twos_complement 131072 target / 4)
-- op0 2: loads, stores, immediates
word (L8ui t s offset) = rri8 2 t s 0 (unsigned_abs offset)
word (L16ui t s offset) = rri8 2 t s 1 (unsigned_abs offset / 2)
word (L32i t s offset) = rri8 2 t s 2 (unsigned_abs offset / 4)
word (L16si t s offset) = rri8 2 t s 9 (unsigned_abs offset / 2)
word (S8i t s offset) = rri8 2 t s 4 (unsigned_abs offset)
word (S16i t s offset) = rri8 2 t s 5 (unsigned_abs offset / 2)
word (S32i t s offset) = rri8 2 t s 6 (unsigned_abs offset / 4)
word (Movi t value) = rri8 2 t (twos_complement 2048 value / 256) 10 (twos_complement 2048 value % 256)
word (Addi t s value) = rri8 2 t s 12 (twos_complement 128 value)
word (Addmi t s value) = rri8 2 t s 13 (twos_complement 32768 value / 256)
-- op0 5: a call
word (Call0 target) = call_format 5 0 (twos_complement 524288 target / 4)
-- op0 6: a jump, branches on one register
word (J target) = call_format 6 0 (twos_complement 131072 target)
word (Beqz s target) = bri12 6 1 0 s (twos_complement 2048 target)
word (Bnez s target) = bri12 6 1 1 s (twos_complement 2048 target)
word (Bltz s target) = bri12 6 1 2 s (twos_complement 2048 target)
word (Bgez s target) = bri12 6 1 3 s (twos_complement 2048 target)
word (Beqi s constant target) = bri8 6 2 0 s (constant_code constant) (twos_complement 128 target)
word (Bnei s constant target) = bri8 6 2 1 s (constant_code constant) (twos_complement 128 target)
word (Blti s constant target) = bri8 6 2 2 s (constant_code constant) (twos_complement 128 target)
word (Bgei s constant target) = bri8 6 2 3 s (constant_code constant) (twos_complement 128 target)
word (Bltui s constant target) = bri8 6 3 2 s (unsigned_code constant) (twos_complement 128 target)
word (Bgeui s constant target) = bri8 6 3 3 s (unsigned_code constant) (twos_complement 128 target)
-- op0 7: branches on two registers, or on one bit
word (Bnone s t target) = rri8 7 t s 0 (twos_complement 128 target)
word (Beq s t target) = rri8 7 t s 1 (twos_complement 128 target)
word (Blt s t target) = rri8 7 t s 2 (twos_complement 128 target)
word (Bltu s t target) = rri8 7 t s 3 (twos_complement 128 target)
word (Ball s t target) = rri8 7 t s 4 (twos_complement 128 target)
word (Bbc s t target) = rri8 7 t s 5 (twos_complement 128 target)
word (Bany s t target) = rri8 7 t s 8 (twos_complement 128 target)
word (Bne s t target) = rri8 7 t s 9 (twos_complement 128 target)
word (Bge s t target) = rri8 7 t s 10 (twos_complement 128 target)
word (Bgeu s t target) = rri8 7 t s 11 (twos_complement 128 target)
word (Bnall s t target) = rri8 7 t s 12 (twos_complement 128 target)
word (Bbs s t target) = rri8 7 t s 13 (twos_complement 128 target)
word (Bbci s bit target) = rri8 7 (unsigned_abs bit % 16) s (6 + unsigned_abs bit / 16) (twos_complement 128 target)
word (Bbsi s bit target) = rri8 7 (unsigned_abs bit % 16) s (14 + unsigned_abs bit / 16) (twos_complement 128 target)

-- the bytes are those of the instruction
abbrev pub Spells : Inst → List ℕ → Type 0
Spells inst bytes = number bytes ≡ word inst
