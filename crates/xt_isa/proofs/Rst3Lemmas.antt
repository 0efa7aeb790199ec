-- The family of op0 0, op1 3: what is read fits and has the word, and SEXT is read from its word.
use Rattle.std.proofs.Common.{◌≡◌, ℕ, ◌+◌, ◌-◌, ◌<◌, ℤ, pos, negsuc, Option, Some, ap, refl, arith, lit<}
use Rattle.std.specs.Prelude.{◌==◌}
use Rattle.xt_isa.specs.declared.instruction.Inst.{Inst}
use Rattle.xt_isa.specs.declared.instruction.Inst.TheVariants.{Sext}
use Rattle.xt_isa.specs.Formats.{rrr}
use Rattle.xt_isa.specs.Numbers.{IsBetween}
use Rattle.xt_isa.specs.Reading.{read_rst3}
use Rattle.xt_isa.proofs.Cases.{by_test, same_at}
use Rattle.xt_isa.proofs.Fields.{IsRead, IsSoundAt, read_from}

pub sound_rst3 : (op2 r s t : ℕ) → r < 16 → s < 16 → t < 16 → IsSoundAt (rrr 0 t s r 3 op2) (read_rst3 op2 r s t)
sound_rst3 op2 r s t hr hs ht =
    let P : Option Inst → Type 0 = IsSoundAt (rrr 0 t s r 3 op2) in
    let word_at : ℕ → ℕ = λ n. rrr 0 t s r 3 n in
    by_test P (op2 == 2) _ _ (λ h. ((hr, hs, (omega arith, omega arith)), grind arith)) (λ _.
    by_test P (op2 == 4) _ _ (λ h. ((hr, hs, ht), same_at word_at op2 4 h)) (λ _.
    by_test P (op2 == 5) _ _ (λ h. ((hr, hs, ht), same_at word_at op2 5 h)) (λ _.
    by_test P (op2 == 6) _ _ (λ h. ((hr, hs, ht), same_at word_at op2 6 h)) (λ _.
    by_test P (op2 == 7) _ _ (λ h. ((hr, hs, ht), same_at word_at op2 7 h)) (λ _.
    by_test P (op2 == 8) _ _ (λ h. ((hr, hs, ht), same_at word_at op2 8 h)) (λ _.
    by_test P (op2 == 9) _ _ (λ h. ((hr, hs, ht), same_at word_at op2 9 h)) (λ _.
    by_test P (op2 == 10) _ _ (λ h. ((hr, hs, ht), same_at word_at op2 10 h)) (λ _.
    by_test P (op2 == 11) _ _ (λ h. ((hr, hs, ht), same_at word_at op2 11 h)) (λ _. tt)))))))))

pub read_sext : (r s : ℕ) (place : ℤ) → r < 16 → s < 16 → IsBetween 7 22 place → IsRead (Sext r s place)
read_sext r s (pos n) hr hs h =
    let whole : n - 7 + 7 ≡ n = omega arith in
    read_from _ 0 (n - 7) s r 3 2 (lit< tt) (omega arith) hs hr (lit< tt) (lit< tt) refl (ap (λ m. Some (Sext r s (pos m))) whole)
read_sext r s (negsuc n) hr hs h = absurd (omega arith)
