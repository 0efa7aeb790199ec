-- What one instruction does, as a function of what it reads: what it writes, where it goes, and its access to memory.
use Rattle.std.specs.Prelude.{ℕ, ◌-◌, ◌*◌, ◌/◌, ◌%◌, ◌^◌, ℤ, ◌*ℤ◌, Bool, true, false, not, ◌==◌, nat_lt, if◌then◌else◌, unsigned_abs, int_lt, bit_and, bit_or, bit_xor}
use Rattle.xt_isa.specs.declared.instruction.Inst.{Inst}
use Rattle.xt_isa.specs.declared.instruction.Inst.TheVariants.{And, Or, Xor, Add, Addx2, Addx4, Addx8, Sub, Subx2, Subx4, Subx8, Neg, Abs, Ssr, Ssl, Ssai, Ret, Jx, Callx0, Nop, Simcall, Slli, Srai, Srli, Src, Srl, Sll, Sra, Mul16u, Mul16s, Mull, Sext, Min, Max, Minu, Maxu, Moveqz, Movnez, Movltz, Movgez, Extui, L32r, L8ui, L16ui, L32i, L16si, S8i, S16i, S32i, Movi, Addi, Addmi, Call0, J, Beqz, Bnez, Bltz, Bgez, Beqi, Bnei, Blti, Bgei, Bltui, Bgeui, Bnone, Beq, Blt, Bltu, Ball, Bbc, Bany, Bne, Bge, Bgeu, Bnall, Bbs, Bbci, Bbsi}
use Rattle.xt_core.specs.declared.action.Action.{Action}
use Rattle.xt_core.specs.Kinds.{calls, gives, goes, idle, loads, only_if, shifts_by, stores}
use Rattle.xt_core.specs.View.{View}
use Rattle.xt_core.specs.Words.{aligned, bit_of, difference32, funnel, is_negative, low_half, moved, sign_copies, sign_extended, signed32, signed_half, signed_less, sum32, word32}

-- ---- addresses, modulo 2 ^ 32

-- the address so many bytes ahead of the pc
abbrev pub ahead : View → ℕ → ℕ
ahead v bytes = sum32 v.pc bytes

-- a branch that is taken goes to pc + 4 and the signed offset
abbrev pub branches : View → ℤ → Bool → Action
branches v target taken = only_if taken (goes (moved (ahead v 4) target))

-- an address: a register's value and the offset
abbrev pub address_of : View → ℕ → ℤ → ℕ
address_of v a offset = moved (v.ar a) offset

-- ---- the instructions, after the manual, by family

abbrev pub action : Inst → View → Action
-- logic, sums, differences, sign
action (And r a b) v = gives r (bit_and (v.ar a) (v.ar b))
action (Or r a b) v = gives r (bit_or (v.ar a) (v.ar b))
action (Xor r a b) v = gives r (bit_xor (v.ar a) (v.ar b))
action (Add r a b) v = gives r (sum32 (v.ar a) (v.ar b))
action (Addx2 r a b) v = gives r (sum32 (2 * v.ar a) (v.ar b))
action (Addx4 r a b) v = gives r (sum32 (4 * v.ar a) (v.ar b))
action (Addx8 r a b) v = gives r (sum32 (8 * v.ar a) (v.ar b))
action (Sub r a b) v = gives r (difference32 (v.ar a) (v.ar b))
action (Subx2 r a b) v = gives r (difference32 (2 * v.ar a) (v.ar b))
action (Subx4 r a b) v = gives r (difference32 (4 * v.ar a) (v.ar b))
action (Subx8 r a b) v = gives r (difference32 (8 * v.ar a) (v.ar b))
action (Neg r b) v = gives r (difference32 0 (v.ar b))
action (Abs r b) v = gives r (unsigned_abs (signed32 (v.ar b)))
-- the shift amount register, jumps through a register, and what has no operand
action (Ssr a) v = shifts_by (v.ar a % 32)
action (Ssl a) v = shifts_by (32 - v.ar a % 32)
action (Ssai amount) v = shifts_by (unsigned_abs amount)
action Ret v = goes (v.ar 0)
action (Jx a) v = goes (v.ar a)
action (Callx0 a) v = calls (ahead v 3) (v.ar a)
action Nop v = idle
action Simcall v = record idle { halts = true }
-- shifts, and products of halves
action (Slli r a amount) v = gives r (v.ar a * 2 ^ unsigned_abs amount % 2 ^ 32)
action (Srai r b amount) v = gives r (funnel (sign_copies (v.ar b)) (v.ar b) (unsigned_abs amount))
action (Srli r b amount) v = gives r (funnel 0 (v.ar b) (unsigned_abs amount))
action (Src r a b) v = gives r (funnel (v.ar a) (v.ar b) v.sar)
action (Srl r b) v = gives r (funnel 0 (v.ar b) v.sar)
action (Sll r a) v = gives r (funnel (v.ar a) 0 v.sar)
action (Sra r b) v = gives r (funnel (sign_copies (v.ar b)) (v.ar b) v.sar)
action (Mul16u r a b) v = gives r (low_half (v.ar a) * low_half (v.ar b))
action (Mul16s r a b) v = gives r (word32 (signed_half (v.ar a) *ℤ signed_half (v.ar b)))
-- a product, sign extension, minimum and maximum, conditional moves, a field of bits
action (Mull r a b) v = gives r (v.ar a * v.ar b % 2 ^ 32)
action (Sext r a place) v = gives r (sign_extended (v.ar a) (unsigned_abs place))
action (Min r a b) v = gives r (if signed_less (v.ar a) (v.ar b) then v.ar a else v.ar b)
action (Max r a b) v = gives r (if signed_less (v.ar a) (v.ar b) then v.ar b else v.ar a)
action (Minu r a b) v = gives r (if nat_lt (v.ar a) (v.ar b) then v.ar a else v.ar b)
action (Maxu r a b) v = gives r (if nat_lt (v.ar a) (v.ar b) then v.ar b else v.ar a)
action (Moveqz r a b) v = only_if (v.ar b == 0) (gives r (v.ar a))
action (Movnez r a b) v = only_if (not (v.ar b == 0)) (gives r (v.ar a))
action (Movltz r a b) v = only_if (is_negative (v.ar b)) (gives r (v.ar a))
action (Movgez r a b) v = only_if (not (is_negative (v.ar b))) (gives r (v.ar a))
action (Extui r b shift width) v = gives r (v.ar b / 2 ^ unsigned_abs shift % 2 ^ unsigned_abs width)
-- loads, stores, immediates
action (L32r t target) v = loads (moved (aligned (ahead v 3)) target) 4 false t
action (L8ui t a offset) v = loads (address_of v a offset) 1 false t
action (L16ui t a offset) v = loads (address_of v a offset) 2 false t
action (L32i t a offset) v = loads (address_of v a offset) 4 false t
action (L16si t a offset) v = loads (address_of v a offset) 2 true t
action (S8i t a offset) v = stores (address_of v a offset) 1 (v.ar t)
action (S16i t a offset) v = stores (address_of v a offset) 2 (v.ar t)
action (S32i t a offset) v = stores (address_of v a offset) 4 (v.ar t)
action (Movi t value) v = gives t (word32 value)
action (Addi t a value) v = gives t (moved (v.ar a) value)
action (Addmi t a value) v = gives t (moved (v.ar a) value)
-- a call, a jump, branches on one register
action (Call0 target) v = calls (ahead v 3) (moved (sum32 (aligned v.pc) 4) target)
action (J target) v = goes (moved (ahead v 4) target)
action (Beqz a target) v = branches v target (v.ar a == 0)
action (Bnez a target) v = branches v target (not (v.ar a == 0))
action (Bltz a target) v = branches v target (is_negative (v.ar a))
action (Bgez a target) v = branches v target (not (is_negative (v.ar a)))
action (Beqi a constant target) v = branches v target (v.ar a == word32 constant)
action (Bnei a constant target) v = branches v target (not (v.ar a == word32 constant))
action (Blti a constant target) v = branches v target (int_lt (signed32 (v.ar a)) constant)
action (Bgei a constant target) v = branches v target (not (int_lt (signed32 (v.ar a)) constant))
action (Bltui a constant target) v = branches v target (nat_lt (v.ar a) (unsigned_abs constant))
action (Bgeui a constant target) v = branches v target (not (nat_lt (v.ar a) (unsigned_abs constant)))
-- branches on two registers, or on one bit
action (Bnone a b target) v = branches v target (bit_and (v.ar a) (v.ar b) == 0)
action (Beq a b target) v = branches v target (v.ar a == v.ar b)
action (Blt a b target) v = branches v target (signed_less (v.ar a) (v.ar b))
action (Bltu a b target) v = branches v target (nat_lt (v.ar a) (v.ar b))
action (Ball a b target) v = branches v target (bit_and (v.ar a) (v.ar b) == v.ar b)
action (Bbc a b target) v = branches v target (bit_of (v.ar a) (v.ar b % 32) == 0)
action (Bany a b target) v = branches v target (not (bit_and (v.ar a) (v.ar b) == 0))
action (Bne a b target) v = branches v target (not (v.ar a == v.ar b))
action (Bge a b target) v = branches v target (not (signed_less (v.ar a) (v.ar b)))
action (Bgeu a b target) v = branches v target (not (nat_lt (v.ar a) (v.ar b)))
action (Bnall a b target) v = branches v target (not (bit_and (v.ar a) (v.ar b) == v.ar b))
action (Bbs a b target) v = branches v target (bit_of (v.ar a) (v.ar b % 32) == 1)
action (Bbci a bit target) v = branches v target (bit_of (v.ar a) (unsigned_abs bit) == 0)
action (Bbsi a bit target) v = branches v target (bit_of (v.ar a) (unsigned_abs bit) == 1)
