-- The family of each instruction: which file of the program has its operands, its bytes and its reading. No part of the
-- table.
use Rattle.xt_isa.specs.declared.instruction.Inst.{Inst}
use Rattle.xt_isa.specs.declared.instruction.Inst.TheVariants.{And, Or, Xor, Add, Addx2, Addx4, Addx8, Sub, Subx2, Subx4, Subx8, Neg, Abs, Ssr, Ssl, Ssai, Ret, Jx, Callx0, Nop, Simcall, Slli, Srai, Srli, Src, Srl, Sll, Sra, Mul16u, Mul16s, Mull, Sext, Min, Max, Minu, Maxu, Moveqz, Movnez, Movltz, Movgez, Extui, L32r, L8ui, L16ui, L32i, L16si, S8i, S16i, S32i, Movi, Addi, Addmi, Call0, J, Beqz, Bnez, Bltz, Bgez, Beqi, Bnei, Blti, Bgei, Bltui, Bgeui, Bnone, Beq, Blt, Bltu, Ball, Bbc, Bany, Bne, Bge, Bgeu, Bnall, Bbs, Bbci, Bbsi}
use Rattle.xt_isa.specs.declared.families.Family.{Family}
use Rattle.xt_isa.specs.declared.families.Family.TheVariants.{Arithmetic, Special, Shifts, Choices, Memory, Jumps, Branches}

abbrev pub family_of : Inst → Family
family_of (And _ _ _) = Arithmetic
family_of (Or _ _ _) = Arithmetic
family_of (Xor _ _ _) = Arithmetic
family_of (Add _ _ _) = Arithmetic
family_of (Addx2 _ _ _) = Arithmetic
family_of (Addx4 _ _ _) = Arithmetic
family_of (Addx8 _ _ _) = Arithmetic
family_of (Sub _ _ _) = Arithmetic
family_of (Subx2 _ _ _) = Arithmetic
family_of (Subx4 _ _ _) = Arithmetic
family_of (Subx8 _ _ _) = Arithmetic
family_of (Neg _ _) = Arithmetic
family_of (Abs _ _) = Arithmetic
family_of (Ssr _) = Special
family_of (Ssl _) = Special
family_of (Ssai _) = Special
family_of Ret = Special
family_of (Jx _) = Special
family_of (Callx0 _) = Special
family_of Nop = Special
family_of Simcall = Special
family_of (Slli _ _ _) = Shifts
family_of (Srai _ _ _) = Shifts
family_of (Srli _ _ _) = Shifts
family_of (Src _ _ _) = Shifts
family_of (Srl _ _) = Shifts
family_of (Sll _ _) = Shifts
family_of (Sra _ _) = Shifts
family_of (Mul16u _ _ _) = Shifts
family_of (Mul16s _ _ _) = Shifts
family_of (Mull _ _ _) = Choices
family_of (Sext _ _ _) = Choices
family_of (Min _ _ _) = Choices
family_of (Max _ _ _) = Choices
family_of (Minu _ _ _) = Choices
family_of (Maxu _ _ _) = Choices
family_of (Moveqz _ _ _) = Choices
family_of (Movnez _ _ _) = Choices
family_of (Movltz _ _ _) = Choices
family_of (Movgez _ _ _) = Choices
family_of (Extui _ _ _ _) = Choices
family_of (L32r _ _) = Memory
family_of (L8ui _ _ _) = Memory
family_of (L16ui _ _ _) = Memory
family_of (L32i _ _ _) = Memory
family_of (L16si _ _ _) = Memory
family_of (S8i _ _ _) = Memory
family_of (S16i _ _ _) = Memory
family_of (S32i _ _ _) = Memory
family_of (Movi _ _) = Memory
family_of (Addi _ _ _) = Memory
family_of (Addmi _ _ _) = Memory
family_of (Call0 _) = Jumps
family_of (J _) = Jumps
family_of (Beqz _ _) = Jumps
family_of (Bnez _ _) = Jumps
family_of (Bltz _ _) = Jumps
family_of (Bgez _ _) = Jumps
family_of (Beqi _ _ _) = Jumps
family_of (Bnei _ _ _) = Jumps
family_of (Blti _ _ _) = Jumps
family_of (Bgei _ _ _) = Jumps
family_of (Bltui _ _ _) = Jumps
family_of (Bgeui _ _ _) = Jumps
family_of (Bnone _ _ _) = Branches
family_of (Beq _ _ _) = Branches
family_of (Blt _ _ _) = Branches
family_of (Bltu _ _ _) = Branches
family_of (Ball _ _ _) = Branches
family_of (Bbc _ _ _) = Branches
family_of (Bany _ _ _) = Branches
family_of (Bne _ _ _) = Branches
family_of (Bge _ _ _) = Branches
family_of (Bgeu _ _ _) = Branches
family_of (Bnall _ _ _) = Branches
family_of (Bbs _ _ _) = Branches
family_of (Bbci _ _ _) = Branches
family_of (Bbsi _ _ _) = Branches
