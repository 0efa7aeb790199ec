-- The numbers behind an instruction's operands have no shape.
use Rattle.std.proofs.Common.{◌≡◌, ℕ, refl}
use Rattle.xt_isa.specs.declared.instruction.Inst.{Inst}
use Rattle.xt_isa.specs.declared.instruction.Inst.TheVariants as inst
use Rattle.xt_mnemonics.specs.Shapes.{shapes}
use Rattle.xt_mnemonics.specs.Build.{mnemonic_of, values_of, filled}
use Rattle.xt_dis.specs.Operands.{core_operands}

pub no_more : (at : ℕ) (i : Inst) → core_operands at (shapes (mnemonic_of i)) (filled (values_of i)) ≡ core_operands at (shapes (mnemonic_of i)) (values_of i)
no_more at (inst.And a b c) = refl
no_more at (inst.Or a b c) = refl
no_more at (inst.Xor a b c) = refl
no_more at (inst.Add a b c) = refl
no_more at (inst.Addx2 a b c) = refl
no_more at (inst.Addx4 a b c) = refl
no_more at (inst.Addx8 a b c) = refl
no_more at (inst.Sub a b c) = refl
no_more at (inst.Subx2 a b c) = refl
no_more at (inst.Subx4 a b c) = refl
no_more at (inst.Subx8 a b c) = refl
no_more at (inst.Neg a b) = refl
no_more at (inst.Abs a b) = refl
no_more at (inst.Ssr a) = refl
no_more at (inst.Ssl a) = refl
no_more at (inst.Ssai a) = refl
no_more at inst.Ret = refl
no_more at (inst.Jx a) = refl
no_more at (inst.Callx0 a) = refl
no_more at inst.Nop = refl
no_more at inst.Simcall = refl
no_more at (inst.Slli a b c) = refl
no_more at (inst.Srai a b c) = refl
no_more at (inst.Srli a b c) = refl
no_more at (inst.Src a b c) = refl
no_more at (inst.Srl a b) = refl
no_more at (inst.Sll a b) = refl
no_more at (inst.Sra a b) = refl
no_more at (inst.Mul16u a b c) = refl
no_more at (inst.Mul16s a b c) = refl
no_more at (inst.Mull a b c) = refl
no_more at (inst.Sext a b c) = refl
no_more at (inst.Min a b c) = refl
no_more at (inst.Max a b c) = refl
no_more at (inst.Minu a b c) = refl
no_more at (inst.Maxu a b c) = refl
no_more at (inst.Moveqz a b c) = refl
no_more at (inst.Movnez a b c) = refl
no_more at (inst.Movltz a b c) = refl
no_more at (inst.Movgez a b c) = refl
no_more at (inst.Extui a b c d) = refl
no_more at (inst.L32r a b) = refl
no_more at (inst.L8ui a b c) = refl
no_more at (inst.L16ui a b c) = refl
no_more at (inst.L32i a b c) = refl
no_more at (inst.L16si a b c) = refl
no_more at (inst.S8i a b c) = refl
no_more at (inst.S16i a b c) = refl
no_more at (inst.S32i a b c) = refl
no_more at (inst.Movi a b) = refl
no_more at (inst.Addi a b c) = refl
no_more at (inst.Addmi a b c) = refl
no_more at (inst.Call0 a) = refl
no_more at (inst.J a) = refl
no_more at (inst.Beqz a b) = refl
no_more at (inst.Bnez a b) = refl
no_more at (inst.Bltz a b) = refl
no_more at (inst.Bgez a b) = refl
no_more at (inst.Beqi a b c) = refl
no_more at (inst.Bnei a b c) = refl
no_more at (inst.Blti a b c) = refl
no_more at (inst.Bgei a b c) = refl
no_more at (inst.Bltui a b c) = refl
no_more at (inst.Bgeui a b c) = refl
no_more at (inst.Bnone a b c) = refl
no_more at (inst.Beq a b c) = refl
no_more at (inst.Blt a b c) = refl
no_more at (inst.Bltu a b c) = refl
no_more at (inst.Ball a b c) = refl
no_more at (inst.Bbc a b c) = refl
no_more at (inst.Bany a b c) = refl
no_more at (inst.Bne a b c) = refl
no_more at (inst.Bge a b c) = refl
no_more at (inst.Bgeu a b c) = refl
no_more at (inst.Bnall a b c) = refl
no_more at (inst.Bbs a b c) = refl
no_more at (inst.Bbci a b c) = refl
no_more at (inst.Bbsi a b c) = refl
