-- What the fields of a word read as, family by family. No part of the table: the decoder's own functions are these,
-- and lemmas join them to the table. Tests of a range come first in their chain.
use Rattle.std.specs.Prelude.{ℕ, ◌+◌, ◌-◌, ◌*◌, ◌/◌, ◌%◌, pos, negsuc, Option, Some, None, ◌==◌, nat_lt, nat_le, ◌&&◌, if◌then◌else◌}
use Rattle.xt_isa.specs.declared.instruction.Inst.{Inst}
use Rattle.xt_isa.specs.declared.instruction.Inst.TheVariants.{And, Or, Xor, Add, Addx2, Addx4, Addx8, Sub, Subx2, Subx4, Subx8, Neg, Abs, Ssr, Ssl, Ssai, Ret, Jx, Callx0, Nop, Simcall, Slli, Srai, Srli, Src, Srl, Sll, Sra, Mul16u, Mul16s, Mull, Sext, Min, Max, Minu, Maxu, Moveqz, Movnez, Movltz, Movgez, Extui, L32r, L8ui, L16ui, L32i, L16si, S8i, S16i, S32i, Movi, Addi, Addmi, Call0, J, Beqz, Bnez, Bltz, Bgez, Beqi, Bnei, Blti, Bgei, Bltui, Bgeui, Bnone, Beq, Blt, Bltu, Ball, Bbc, Bany, Bne, Bge, Bgeu, Bnall, Bbs, Bbci, Bbsi}
use Rattle.xt_isa.specs.Constants.{constant_at, unsigned_at}
use Rattle.xt_isa.specs.Numbers.{signed_value}

-- op0 0, op1 0, op2 0
abbrev pub read_st0 : ℕ → ℕ → ℕ → Option Inst
read_st0 r s t =
    if r == 0 && t == 8 && s == 0 then Some Ret else (
    if r == 0 && t == 10 then Some (Jx s) else (
    if r == 0 && t == 12 then Some (Callx0 s) else (
    if r == 2 && t == 15 && s == 0 then Some Nop else (
    if r == 5 && t == 0 && s == 1 then Some Simcall else None))))

-- op0 0, op1 0, op2 4
abbrev pub read_st1 : ℕ → ℕ → ℕ → Option Inst
read_st1 r s t =
    if r == 4 && nat_lt t 2 then Some (Ssai (pos (s + 16 * t))) else (
    if r == 0 && t == 0 then Some (Ssr s) else (
    if r == 1 && t == 0 then Some (Ssl s) else None))

-- op0 0, op1 0, op2 6
abbrev pub read_rt0 : ℕ → ℕ → ℕ → Option Inst
read_rt0 r s t =
    if s == 0 then Some (Neg r t) else (
    if s == 1 then Some (Abs r t) else None)

-- op0 0, op1 0
abbrev pub read_rst0 : ℕ → ℕ → ℕ → ℕ → Option Inst
read_rst0 op2 r s t =
    if op2 == 0 then read_st0 r s t else (
    if op2 == 4 then read_st1 r s t else (
    if op2 == 6 then read_rt0 r s t else (
    if op2 == 1 then Some (And r s t) else (
    if op2 == 2 then Some (Or r s t) else (
    if op2 == 3 then Some (Xor r s t) else (
    if op2 == 8 then Some (Add r s t) else (
    if op2 == 9 then Some (Addx2 r s t) else (
    if op2 == 10 then Some (Addx4 r s t) else (
    if op2 == 11 then Some (Addx8 r s t) else (
    if op2 == 12 then Some (Sub r s t) else (
    if op2 == 13 then Some (Subx2 r s t) else (
    if op2 == 14 then Some (Subx4 r s t) else (
    if op2 == 15 then Some (Subx8 r s t) else None)))))))))))))

-- op0 0, op1 1
abbrev pub read_rst1 : ℕ → ℕ → ℕ → ℕ → Option Inst
read_rst1 op2 r s t =
    if nat_lt op2 2 && nat_lt 0 (t + 16 * op2) then Some (Slli r s (pos (32 - (t + 16 * op2)))) else (
    if nat_le 2 op2 && nat_lt op2 4 then Some (Srai r t (pos (s + 16 * (op2 - 2)))) else (
    if op2 == 4 then Some (Srli r t (pos s)) else (
    if op2 == 9 && s == 0 then Some (Srl r t) else (
    if op2 == 10 && t == 0 then Some (Sll r s) else (
    if op2 == 11 && s == 0 then Some (Sra r t) else (
    if op2 == 8 then Some (Src r s t) else (
    if op2 == 12 then Some (Mul16u r s t) else (
    if op2 == 13 then Some (Mul16s r s t) else None))))))))

-- op0 0, op1 2
abbrev pub read_rst2 : ℕ → ℕ → ℕ → ℕ → Option Inst
read_rst2 op2 r s t =
    if op2 == 8 then Some (Mull r s t) else None

-- op0 0, op1 3
abbrev pub read_rst3 : ℕ → ℕ → ℕ → ℕ → Option Inst
read_rst3 op2 r s t =
    if op2 == 2 then Some (Sext r s (pos (t + 7))) else (
    if op2 == 4 then Some (Min r s t) else (
    if op2 == 5 then Some (Max r s t) else (
    if op2 == 6 then Some (Minu r s t) else (
    if op2 == 7 then Some (Maxu r s t) else (
    if op2 == 8 then Some (Moveqz r s t) else (
    if op2 == 9 then Some (Movnez r s t) else (
    if op2 == 10 then Some (Movltz r s t) else (
    if op2 == 11 then Some (Movgez r s t) else None))))))))

-- op0 0
abbrev pub read_qrst : ℕ → ℕ → ℕ → ℕ → ℕ → Option Inst
read_qrst op1 op2 r s t =
    if nat_le 4 op1 && nat_lt op1 6 then Some (Extui r t (pos (s + 16 * (op1 - 4))) (pos (op2 + 1))) else (
    if op1 == 0 then read_rst0 op2 r s t else (
    if op1 == 1 then read_rst1 op2 r s t else (
    if op1 == 2 then read_rst2 op2 r s t else (
    if op1 == 3 then read_rst3 op2 r s t else None))))

-- op0 1
abbrev pub read_l32r : ℕ → ℕ → Option Inst
read_l32r t imm16 = Some (L32r t (negsuc (262143 - 4 * imm16)))

-- op0 2
abbrev pub read_lsai : ℕ → ℕ → ℕ → ℕ → Option Inst
read_lsai r s t imm8 =
    if r == 0 then Some (L8ui t s (pos imm8)) else (
    if r == 1 then Some (L16ui t s (pos (2 * imm8))) else (
    if r == 2 then Some (L32i t s (pos (4 * imm8))) else (
    if r == 4 then Some (S8i t s (pos imm8)) else (
    if r == 5 then Some (S16i t s (pos (2 * imm8))) else (
    if r == 6 then Some (S32i t s (pos (4 * imm8))) else (
    if r == 9 then Some (L16si t s (pos (2 * imm8))) else (
    if r == 10 then Some (Movi t (signed_value 2048 (imm8 + 256 * s))) else (
    if r == 12 then Some (Addi t s (signed_value 128 imm8)) else (
    if r == 13 then Some (Addmi t s (signed_value 32768 (256 * imm8))) else None)))))))))

-- op0 5
abbrev pub read_calls : ℕ → ℕ → Option Inst
read_calls t offset =
    if t % 4 == 0 then Some (Call0 (signed_value 524288 (4 * offset))) else None

-- op0 6, n 1
abbrev pub read_bz : ℕ → ℕ → ℕ → Option Inst
read_bz t s imm12 =
    if t == 1 then Some (Beqz s (signed_value 2048 imm12)) else (
    if t == 5 then Some (Bnez s (signed_value 2048 imm12)) else (
    if t == 9 then Some (Bltz s (signed_value 2048 imm12)) else (
    if t == 13 then Some (Bgez s (signed_value 2048 imm12)) else None)))

-- op0 6, n 2 and 3
abbrev pub read_bi : ℕ → ℕ → ℕ → ℕ → Option Inst
read_bi t r s imm8 =
    if t == 2 then Some (Beqi s (constant_at r) (signed_value 128 imm8)) else (
    if t == 6 then Some (Bnei s (constant_at r) (signed_value 128 imm8)) else (
    if t == 10 then Some (Blti s (constant_at r) (signed_value 128 imm8)) else (
    if t == 14 then Some (Bgei s (constant_at r) (signed_value 128 imm8)) else (
    if t == 11 then Some (Bltui s (unsigned_at r) (signed_value 128 imm8)) else (
    if t == 15 then Some (Bgeui s (unsigned_at r) (signed_value 128 imm8)) else None)))))

-- op0 6: t holds n and m
abbrev pub read_si : ℕ → ℕ → ℕ → ℕ → ℕ → ℕ → Option Inst
read_si t r s imm8 imm12 offset =
    if t % 4 == 0 then Some (J (signed_value 131072 offset)) else (
    if t % 4 == 1 then read_bz t s imm12 else read_bi t r s imm8)

-- op0 7
abbrev pub read_b : ℕ → ℕ → ℕ → ℕ → Option Inst
read_b r s t imm8 =
    if nat_le 6 r && nat_lt r 8 then Some (Bbci s (pos (t + 16 * (r - 6))) (signed_value 128 imm8)) else (
    if nat_le 14 r then Some (Bbsi s (pos (t + 16 * (r - 14))) (signed_value 128 imm8)) else (
    if r == 0 then Some (Bnone s t (signed_value 128 imm8)) else (
    if r == 1 then Some (Beq s t (signed_value 128 imm8)) else (
    if r == 2 then Some (Blt s t (signed_value 128 imm8)) else (
    if r == 3 then Some (Bltu s t (signed_value 128 imm8)) else (
    if r == 4 then Some (Ball s t (signed_value 128 imm8)) else (
    if r == 5 then Some (Bbc s t (signed_value 128 imm8)) else (
    if r == 8 then Some (Bany s t (signed_value 128 imm8)) else (
    if r == 9 then Some (Bne s t (signed_value 128 imm8)) else (
    if r == 10 then Some (Bge s t (signed_value 128 imm8)) else (
    if r == 11 then Some (Bgeu s t (signed_value 128 imm8)) else (
    if r == 12 then Some (Bnall s t (signed_value 128 imm8)) else (
    if r == 13 then Some (Bbs s t (signed_value 128 imm8)) else None)))))))))))))

-- a whole word
abbrev pub read_fields : ℕ → ℕ → ℕ → ℕ → ℕ → ℕ → Option Inst
read_fields op0 t s r op1 op2 =
    if op0 == 0 then read_qrst op1 op2 r s t else (
    if op0 == 1 then read_l32r t (s + 16 * r + 256 * op1 + 4096 * op2) else (
    if op0 == 2 then read_lsai r s t (op1 + 16 * op2) else (
    if op0 == 5 then read_calls t (t / 4 + 4 * s + 64 * r + 1024 * op1 + 16384 * op2) else (
    if op0 == 6 then read_si t r s (op1 + 16 * op2) (r + 16 * op1 + 256 * op2) (t / 4 + 4 * s + 64 * r + 1024 * op1 + 16384 * op2) else (
    if op0 == 7 then read_b r s t (op1 + 16 * op2) else None)))))
