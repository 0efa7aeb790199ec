-- Words and instructions are one to one: each instruction is read from its word, and from no other fields.
use Rattle.std.proofs.Common.{◌≡◌, ◌+◌, ◌*◌, Some, ap, refl, sym, ◌∙◌, lit<}
use Rattle.xt_isa.specs.declared.instruction.Inst.{Inst}
use Rattle.xt_isa.specs.declared.instruction.Inst.TheVariants.{And, Or, Xor, Add, Addx2, Addx4, Addx8, Sub, Subx2, Subx4, Subx8, Neg, Abs, Ssr, Ssl, Ssai, Ret, Jx, Callx0, Nop, Simcall, Slli, Srai, Srli, Src, Srl, Sll, Sra, Mul16u, Mul16s, Mull, Sext, Min, Max, Minu, Maxu, Moveqz, Movnez, Movltz, Movgez, Extui, L32r, L8ui, L16ui, L32i, L16si, S8i, S16i, S32i, Movi, Addi, Addmi, Call0, J, Beqz, Bnez, Bltz, Bgez, Beqi, Bnei, Blti, Bgei, Bltui, Bgeui, Bnone, Beq, Blt, Bltu, Ball, Bbc, Bany, Bne, Bge, Bgeu, Bnall, Bbs, Bbci, Bbsi}
use Rattle.xt_isa.specs.Constants.{constant_code, unsigned_code}
use Rattle.xt_isa.specs.Numbers.{signed_value}
use Rattle.xt_isa.specs.Table.{Fits, word}
use Rattle.xt_isa.proofs.BranchLemmas.{read_bbci, read_bbsi, read_near}
use Rattle.xt_isa.proofs.ConstantLemmas.{constant_at-code, unsigned_at-code}
use Rattle.xt_isa.proofs.Fields.{AreSmall, Fields, IsRead, read_from, read_of, read_of-word, word_of}
use Rattle.xt_isa.proofs.JumpLemmas.{read_call0, read_far, read_j, read_l32r_row}
use Rattle.xt_isa.proofs.LsaiLemmas.{read_addmi, read_bytes, read_halves, read_movi, read_words}
use Rattle.xt_isa.proofs.QrstLemmas.{read_extui, read_three}
use Rattle.xt_isa.proofs.Rst0Lemmas.{read_ssai}
use Rattle.xt_isa.proofs.Rst1Lemmas.{read_slli, read_srai, read_srli}
use Rattle.xt_isa.proofs.Rst3Lemmas.{read_sext}

-- each fitting instruction is read from its word
pub read_fits : (inst : Inst) → Fits inst → IsRead inst
read_fits (And r s t) h = read_three _ r s t 0 1 h (lit< tt) (lit< tt) refl refl
read_fits (Or r s t) h = read_three _ r s t 0 2 h (lit< tt) (lit< tt) refl refl
read_fits (Xor r s t) h = read_three _ r s t 0 3 h (lit< tt) (lit< tt) refl refl
read_fits (Add r s t) h = read_three _ r s t 0 8 h (lit< tt) (lit< tt) refl refl
read_fits (Addx2 r s t) h = read_three _ r s t 0 9 h (lit< tt) (lit< tt) refl refl
read_fits (Addx4 r s t) h = read_three _ r s t 0 10 h (lit< tt) (lit< tt) refl refl
read_fits (Addx8 r s t) h = read_three _ r s t 0 11 h (lit< tt) (lit< tt) refl refl
read_fits (Sub r s t) h = read_three _ r s t 0 12 h (lit< tt) (lit< tt) refl refl
read_fits (Subx2 r s t) h = read_three _ r s t 0 13 h (lit< tt) (lit< tt) refl refl
read_fits (Subx4 r s t) h = read_three _ r s t 0 14 h (lit< tt) (lit< tt) refl refl
read_fits (Subx8 r s t) h = read_three _ r s t 0 15 h (lit< tt) (lit< tt) refl refl
read_fits (Neg r t) h = read_from _ 0 t 0 r 0 6 (lit< tt) h.1 (lit< tt) h.0 (lit< tt) (lit< tt) refl refl
read_fits (Abs r t) h = read_from _ 0 t 1 r 0 6 (lit< tt) h.1 (lit< tt) h.0 (lit< tt) (lit< tt) refl refl
read_fits (Ssr s) h = read_from _ 0 0 s 0 0 4 (lit< tt) (lit< tt) h (lit< tt) (lit< tt) (lit< tt) refl refl
read_fits (Ssl s) h = read_from _ 0 0 s 1 0 4 (lit< tt) (lit< tt) h (lit< tt) (lit< tt) (lit< tt) refl refl
read_fits (Ssai amount) h = read_ssai amount h
read_fits Ret h = read_from _ 0 8 0 0 0 0 (lit< tt) (lit< tt) (lit< tt) (lit< tt) (lit< tt) (lit< tt) refl refl
read_fits (Jx s) h = read_from _ 0 10 s 0 0 0 (lit< tt) (lit< tt) h (lit< tt) (lit< tt) (lit< tt) refl refl
read_fits (Callx0 s) h = read_from _ 0 12 s 0 0 0 (lit< tt) (lit< tt) h (lit< tt) (lit< tt) (lit< tt) refl refl
read_fits Nop h = read_from _ 0 15 0 2 0 0 (lit< tt) (lit< tt) (lit< tt) (lit< tt) (lit< tt) (lit< tt) refl refl
read_fits Simcall h = read_from _ 0 0 1 5 0 0 (lit< tt) (lit< tt) (lit< tt) (lit< tt) (lit< tt) (lit< tt) refl refl
read_fits (Slli r s amount) h = read_slli r s amount h.0 h.1 h.2
read_fits (Srai r t amount) h = read_srai r t amount h.0 h.1 h.2
read_fits (Srli r t amount) h = read_srli r t amount h.0 h.1 h.2
read_fits (Src r s t) h = read_three _ r s t 1 8 h (lit< tt) (lit< tt) refl refl
read_fits (Srl r t) h = read_from _ 0 t 0 r 1 9 (lit< tt) h.1 (lit< tt) h.0 (lit< tt) (lit< tt) refl refl
read_fits (Sll r s) h = read_from _ 0 0 s r 1 10 (lit< tt) (lit< tt) h.1 h.0 (lit< tt) (lit< tt) refl refl
read_fits (Sra r t) h = read_from _ 0 t 0 r 1 11 (lit< tt) h.1 (lit< tt) h.0 (lit< tt) (lit< tt) refl refl
read_fits (Mul16u r s t) h = read_three _ r s t 1 12 h (lit< tt) (lit< tt) refl refl
read_fits (Mul16s r s t) h = read_three _ r s t 1 13 h (lit< tt) (lit< tt) refl refl
read_fits (Mull r s t) h = read_three _ r s t 2 8 h (lit< tt) (lit< tt) refl refl
read_fits (Sext r s place) h = read_sext r s place h.0 h.1 h.2
read_fits (Min r s t) h = read_three _ r s t 3 4 h (lit< tt) (lit< tt) refl refl
read_fits (Max r s t) h = read_three _ r s t 3 5 h (lit< tt) (lit< tt) refl refl
read_fits (Minu r s t) h = read_three _ r s t 3 6 h (lit< tt) (lit< tt) refl refl
read_fits (Maxu r s t) h = read_three _ r s t 3 7 h (lit< tt) (lit< tt) refl refl
read_fits (Moveqz r s t) h = read_three _ r s t 3 8 h (lit< tt) (lit< tt) refl refl
read_fits (Movnez r s t) h = read_three _ r s t 3 9 h (lit< tt) (lit< tt) refl refl
read_fits (Movltz r s t) h = read_three _ r s t 3 10 h (lit< tt) (lit< tt) refl refl
read_fits (Movgez r s t) h = read_three _ r s t 3 11 h (lit< tt) (lit< tt) refl refl
read_fits (Extui r t shift width) h = read_extui r t shift width h.0 h.1 h.2 h.3
read_fits (L32r t target) h = read_l32r_row t target h.0 h.1 h.2
read_fits (L8ui t s offset) h = read_bytes (λ z. L8ui t s z) 0 t s offset (lit< tt) h.0 h.1 h.2 (λ code. refl) refl
read_fits (L16ui t s offset) h = read_halves (λ z. L16ui t s z) 1 t s offset (lit< tt) h.0 h.1 h.2 h.3 (λ code. refl) refl
read_fits (L32i t s offset) h = read_words (λ z. L32i t s z) 2 t s offset (lit< tt) h.0 h.1 h.2 h.3 (λ code. refl) refl
read_fits (L16si t s offset) h = read_halves (λ z. L16si t s z) 9 t s offset (lit< tt) h.0 h.1 h.2 h.3 (λ code. refl) refl
read_fits (S8i t s offset) h = read_bytes (λ z. S8i t s z) 4 t s offset (lit< tt) h.0 h.1 h.2 (λ code. refl) refl
read_fits (S16i t s offset) h = read_halves (λ z. S16i t s z) 5 t s offset (lit< tt) h.0 h.1 h.2 h.3 (λ code. refl) refl
read_fits (S32i t s offset) h = read_words (λ z. S32i t s z) 6 t s offset (lit< tt) h.0 h.1 h.2 h.3 (λ code. refl) refl
read_fits (Movi t value) h = read_movi t value h.0 h.1
read_fits (Addi t s value) h = read_near (λ z. Addi t s z) 2 t s 12 value (lit< tt) h.0 h.1 (lit< tt) h.2 (λ op1 op2. refl) refl
read_fits (Addmi t s value) h = read_addmi t s value h.0 h.1 h.2 h.3
read_fits (Call0 target) h = read_call0 target h.0 h.1
read_fits (J target) h = read_j target h
read_fits (Beqz s target) h = read_far (λ z. Beqz s z) 0 s target (lit< tt) h.0 h.1 (λ r op1 op2. refl) refl
read_fits (Bnez s target) h = read_far (λ z. Bnez s z) 1 s target (lit< tt) h.0 h.1 (λ r op1 op2. refl) refl
read_fits (Bltz s target) h = read_far (λ z. Bltz s z) 2 s target (lit< tt) h.0 h.1 (λ r op1 op2. refl) refl
read_fits (Bgez s target) h = read_far (λ z. Bgez s z) 3 s target (lit< tt) h.0 h.1 (λ r op1 op2. refl) refl
read_fits (Beqi s constant target) h = read_near (λ z. Beqi s constant z) 6 2 s (constant_code constant) target (lit< tt) (lit< tt) h.0 h.1 h.2 (λ op1 op2. ap (λ k. Some (Beqi s k (signed_value 128 (op1 + 16 * op2)))) (constant_at-code constant h.1)) refl
read_fits (Bnei s constant target) h = read_near (λ z. Bnei s constant z) 6 6 s (constant_code constant) target (lit< tt) (lit< tt) h.0 h.1 h.2 (λ op1 op2. ap (λ k. Some (Bnei s k (signed_value 128 (op1 + 16 * op2)))) (constant_at-code constant h.1)) refl
read_fits (Blti s constant target) h = read_near (λ z. Blti s constant z) 6 10 s (constant_code constant) target (lit< tt) (lit< tt) h.0 h.1 h.2 (λ op1 op2. ap (λ k. Some (Blti s k (signed_value 128 (op1 + 16 * op2)))) (constant_at-code constant h.1)) refl
read_fits (Bgei s constant target) h = read_near (λ z. Bgei s constant z) 6 14 s (constant_code constant) target (lit< tt) (lit< tt) h.0 h.1 h.2 (λ op1 op2. ap (λ k. Some (Bgei s k (signed_value 128 (op1 + 16 * op2)))) (constant_at-code constant h.1)) refl
read_fits (Bltui s constant target) h = read_near (λ z. Bltui s constant z) 6 11 s (unsigned_code constant) target (lit< tt) (lit< tt) h.0 h.1 h.2 (λ op1 op2. ap (λ k. Some (Bltui s k (signed_value 128 (op1 + 16 * op2)))) (unsigned_at-code constant h.1)) refl
read_fits (Bgeui s constant target) h = read_near (λ z. Bgeui s constant z) 6 15 s (unsigned_code constant) target (lit< tt) (lit< tt) h.0 h.1 h.2 (λ op1 op2. ap (λ k. Some (Bgeui s k (signed_value 128 (op1 + 16 * op2)))) (unsigned_at-code constant h.1)) refl
read_fits (Bnone s t target) h = read_near (λ z. Bnone s t z) 7 t s 0 target (lit< tt) h.1 h.0 (lit< tt) h.2 (λ op1 op2. refl) refl
read_fits (Beq s t target) h = read_near (λ z. Beq s t z) 7 t s 1 target (lit< tt) h.1 h.0 (lit< tt) h.2 (λ op1 op2. refl) refl
read_fits (Blt s t target) h = read_near (λ z. Blt s t z) 7 t s 2 target (lit< tt) h.1 h.0 (lit< tt) h.2 (λ op1 op2. refl) refl
read_fits (Bltu s t target) h = read_near (λ z. Bltu s t z) 7 t s 3 target (lit< tt) h.1 h.0 (lit< tt) h.2 (λ op1 op2. refl) refl
read_fits (Ball s t target) h = read_near (λ z. Ball s t z) 7 t s 4 target (lit< tt) h.1 h.0 (lit< tt) h.2 (λ op1 op2. refl) refl
read_fits (Bbc s t target) h = read_near (λ z. Bbc s t z) 7 t s 5 target (lit< tt) h.1 h.0 (lit< tt) h.2 (λ op1 op2. refl) refl
read_fits (Bany s t target) h = read_near (λ z. Bany s t z) 7 t s 8 target (lit< tt) h.1 h.0 (lit< tt) h.2 (λ op1 op2. refl) refl
read_fits (Bne s t target) h = read_near (λ z. Bne s t z) 7 t s 9 target (lit< tt) h.1 h.0 (lit< tt) h.2 (λ op1 op2. refl) refl
read_fits (Bge s t target) h = read_near (λ z. Bge s t z) 7 t s 10 target (lit< tt) h.1 h.0 (lit< tt) h.2 (λ op1 op2. refl) refl
read_fits (Bgeu s t target) h = read_near (λ z. Bgeu s t z) 7 t s 11 target (lit< tt) h.1 h.0 (lit< tt) h.2 (λ op1 op2. refl) refl
read_fits (Bnall s t target) h = read_near (λ z. Bnall s t z) 7 t s 12 target (lit< tt) h.1 h.0 (lit< tt) h.2 (λ op1 op2. refl) refl
read_fits (Bbs s t target) h = read_near (λ z. Bbs s t z) 7 t s 13 target (lit< tt) h.1 h.0 (lit< tt) h.2 (λ op1 op2. refl) refl
read_fits (Bbci s bit target) h = read_bbci s bit target h.0 h.1 h.2
read_fits (Bbsi s bit target) h = read_bbsi s bit target h.0 h.1 h.2

-- from any fields that have its word
pub complete : (f : Fields) → AreSmall f → (inst : Inst) → Fits inst → word_of f ≡ word inst → read_of f ≡ Some inst
complete f small inst fits e =
    let m = read_fits inst fits in
    read_of-word f m.0 small m.1 (e ∙ sym m.2) ∙ m.3

-- no two fitting instructions have one word
pub same_word : (inst other : Inst) → Fits inst → Fits other → word inst ≡ word other → inst ≡ other
same_word inst other fits fits' e =
    let m = read_fits inst fits in
    let again = complete m.0 m.1 other fits' (m.2 ∙ e) in
    let both : Some inst ≡ Some other = sym m.3 ∙ again in
    cc
