-- What the fields of a word read as fits, and has the word.
use Rattle.std.proofs.Common.{◌≡◌, ℕ, ◌+◌, ◌*◌, ◌/◌, ◌<◌, Option, subst, arith}
use Rattle.std.specs.Prelude.{◌==◌}
use Rattle.xt_isa.specs.declared.instruction.Inst.{Inst}
use Rattle.xt_isa.specs.Formats.{ri16, rri8, rrr}
use Rattle.xt_isa.specs.Reading.{read_b, read_calls, read_l32r, read_lsai, read_qrst, read_si}
use Rattle.xt_isa.proofs.BranchLemmas.{sound_b}
use Rattle.xt_isa.proofs.Cases.{at_field, by_test}
use Rattle.xt_isa.proofs.Fields.{AreSmall, Fields, IsSoundAt, read_of, word_of}
use Rattle.xt_isa.proofs.JumpLemmas.{sound_calls, sound_l32r, sound_si}
use Rattle.xt_isa.proofs.LsaiLemmas.{sound_lsai}
use Rattle.xt_isa.proofs.QrstLemmas.{sound_qrst}

-- the families whose immediate is one field
joined_l32r : (t s r op1 op2 : ℕ) → t < 16 → s < 16 → r < 16 → op1 < 16 → op2 < 16 → IsSoundAt (rrr 1 t s r op1 op2) (read_l32r t (s + 16 * r + 256 * op1 + 4096 * op2))
joined_l32r t s r op1 op2 ht hs hr h1 h2 =
    let imm16 : ℕ = s + 16 * r + 256 * op1 + 4096 * op2 in
    let small : imm16 < 65536 = omega arith in
    let joined : ri16 1 t imm16 ≡ rrr 1 t s r op1 op2 = omega arith in
    subst (λ w. IsSoundAt w (read_l32r t imm16)) joined (sound_l32r t imm16 ht small)

joined_lsai : (t s r op1 op2 : ℕ) → t < 16 → s < 16 → op1 < 16 → op2 < 16 → IsSoundAt (rrr 2 t s r op1 op2) (read_lsai r s t (op1 + 16 * op2))
joined_lsai t s r op1 op2 ht hs h1 h2 =
    let small : op1 + 16 * op2 < 256 = omega arith in
    let joined : rri8 2 t s r (op1 + 16 * op2) ≡ rrr 2 t s r op1 op2 = omega arith in
    subst (λ w. IsSoundAt w (read_lsai r s t (op1 + 16 * op2))) joined (sound_lsai r s t (op1 + 16 * op2) hs ht small)

joined_b : (t s r op1 op2 : ℕ) → t < 16 → s < 16 → r < 16 → op1 < 16 → op2 < 16 → IsSoundAt (rrr 7 t s r op1 op2) (read_b r s t (op1 + 16 * op2))
joined_b t s r op1 op2 ht hs hr h1 h2 =
    let small : op1 + 16 * op2 < 256 = omega arith in
    let joined : rri8 7 t s r (op1 + 16 * op2) ≡ rrr 7 t s r op1 op2 = omega arith in
    subst (λ w. IsSoundAt w (read_b r s t (op1 + 16 * op2))) joined (sound_b r s t (op1 + 16 * op2) hr hs ht small)

-- all families
pub sound : (f : Fields) → AreSmall f → IsSoundAt (word_of f) (read_of f)
sound f small =
    let P : Option Inst → Type 0 = IsSoundAt (word_of f) in
    by_test P (f.op0 == 0) _ _ (λ h. at_field (λ n. IsSoundAt (rrr n f.t f.s f.r f.op1 f.op2) (read_qrst f.op1 f.op2 f.r f.s f.t)) f.op0 0 h (sound_qrst f.op1 f.op2 f.r f.s f.t small.op2 small.r small.s small.t)) (λ _.
    by_test P (f.op0 == 1) _ _ (λ h. at_field (λ n. IsSoundAt (rrr n f.t f.s f.r f.op1 f.op2) (read_l32r f.t (f.s + 16 * f.r + 256 * f.op1 + 4096 * f.op2))) f.op0 1 h (joined_l32r f.t f.s f.r f.op1 f.op2 small.t small.s small.r small.op1 small.op2)) (λ _.
    by_test P (f.op0 == 2) _ _ (λ h. at_field (λ n. IsSoundAt (rrr n f.t f.s f.r f.op1 f.op2) (read_lsai f.r f.s f.t (f.op1 + 16 * f.op2))) f.op0 2 h (joined_lsai f.t f.s f.r f.op1 f.op2 small.t small.s small.op1 small.op2)) (λ _.
    by_test P (f.op0 == 5) _ _ (λ h. at_field (λ n. IsSoundAt (rrr n f.t f.s f.r f.op1 f.op2) (read_calls f.t (f.t / 4 + 4 * f.s + 64 * f.r + 1024 * f.op1 + 16384 * f.op2))) f.op0 5 h (sound_calls f.t f.s f.r f.op1 f.op2 small.t small.s small.r small.op1 small.op2)) (λ _.
    by_test P (f.op0 == 6) _ _ (λ h. at_field (λ n. IsSoundAt (rrr n f.t f.s f.r f.op1 f.op2) (read_si f.t f.r f.s (f.op1 + 16 * f.op2) (f.r + 16 * f.op1 + 256 * f.op2) (f.t / 4 + 4 * f.s + 64 * f.r + 1024 * f.op1 + 16384 * f.op2))) f.op0 6 h (sound_si f.t f.s f.r f.op1 f.op2 small.t small.s small.r small.op1 small.op2)) (λ _.
    by_test P (f.op0 == 7) _ _ (λ h. at_field (λ n. IsSoundAt (rrr n f.t f.s f.r f.op1 f.op2) (read_b f.r f.s f.t (f.op1 + 16 * f.op2))) f.op0 7 h (joined_b f.t f.s f.r f.op1 f.op2 small.t small.s small.r small.op1 small.op2)) (λ _. tt))))))
