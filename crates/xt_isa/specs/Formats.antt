-- The manual's formats of 24 bits as whole numbers, fields from bit 0.
use Rattle.std.specs.Prelude.{ℕ, ◌+◌, ◌*◌, List, slice_index}

-- format RRR: six fields of four bits
abbrev pub rrr : ℕ → ℕ → ℕ → ℕ → ℕ → ℕ → ℕ
rrr op0 t s r op1 op2 = op0 + 16 * t + 256 * s + 4096 * r + 65536 * op1 + 1048576 * op2

-- format RRI8: four fields of four bits, and an immediate of eight
abbrev pub rri8 : ℕ → ℕ → ℕ → ℕ → ℕ → ℕ
rri8 op0 t s r imm8 = op0 + 16 * t + 256 * s + 4096 * r + 65536 * imm8

-- format RI16: two fields of four bits, and an immediate of sixteen
abbrev pub ri16 : ℕ → ℕ → ℕ → ℕ
ri16 op0 t imm16 = op0 + 16 * t + 256 * imm16

-- format CALL: a field of four bits, one of two, and an offset of eighteen
abbrev pub call_format : ℕ → ℕ → ℕ → ℕ
call_format op0 n offset = op0 + 16 * n + 64 * offset

-- format BRI8: n and m of two bits in the place of t
abbrev pub bri8 : ℕ → ℕ → ℕ → ℕ → ℕ → ℕ → ℕ
bri8 op0 n m s r imm8 = op0 + 16 * n + 64 * m + 256 * s + 4096 * r + 65536 * imm8

-- format BRI12: n and m of two bits in the place of t, and an immediate of twelve
abbrev pub bri12 : ℕ → ℕ → ℕ → ℕ → ℕ → ℕ
bri12 op0 n m s imm12 = op0 + 16 * n + 64 * m + 256 * s + 4096 * imm12

-- three bytes as a number, the lowest first
abbrev pub number : List ℕ → ℕ
number bytes = slice_index bytes 0 + 256 * slice_index bytes 1 + 65536 * slice_index bytes 2
