-- The family of op0 0, op1 0: what is read fits and has the word, and SSAI is read from its word.
use Rattle.std.proofs.Common.{◌≡◌, ℕ, ◌+◌, ◌*◌, ◌/◌, ◌%◌, ◌<◌, ℤ, pos, negsuc, Option, Some, true, ap, refl, arith, lit<}
use Rattle.std.specs.Prelude.{◌==◌, ◌&&◌, nat_lt}
use Rattle.xt_isa.specs.declared.instruction.Inst.{Inst}
use Rattle.xt_isa.specs.declared.instruction.Inst.TheVariants.{Ssai}
use Rattle.xt_isa.specs.Formats.{rrr}
use Rattle.xt_isa.specs.Numbers.{IsBetween}
use Rattle.xt_isa.specs.Reading.{read_rst0, read_rt0, read_st0, read_st1}
use Rattle.xt_isa.proofs.Cases.{at_field, by_test, same_at}
use Rattle.xt_isa.proofs.Fields.{IsRead, IsSoundAt, read_from}

sound_st0 : (r s t : ℕ) → s < 16 → IsSoundAt (rrr 0 t s r 0 0) (read_st0 r s t)
sound_st0 r s t hs =
    let P : Option Inst → Type 0 = IsSoundAt (rrr 0 t s r 0 0) in
    by_test P (r == 0 && t == 8 && s == 0) _ _ (λ h. (tt, grind arith)) (λ _.
    by_test P (r == 0 && t == 10) _ _ (λ h. (hs, grind arith)) (λ _.
    by_test P (r == 0 && t == 12) _ _ (λ h. (hs, grind arith)) (λ _.
    by_test P (r == 2 && t == 15 && s == 0) _ _ (λ h. (tt, grind arith)) (λ _.
    by_test P (r == 5 && t == 0 && s == 1) _ _ (λ h. (tt, grind arith)) (λ _. tt)))))

sound_st1 : (r s t : ℕ) → s < 16 → t < 16 → IsSoundAt (rrr 0 t s r 0 4) (read_st1 r s t)
sound_st1 r s t hs ht =
    let P : Option Inst → Type 0 = IsSoundAt (rrr 0 t s r 0 4) in
    by_test P (r == 4 && nat_lt t 2) _ _ (λ h. ((grind arith, grind arith), grind arith)) (λ _.
    by_test P (r == 0 && t == 0) _ _ (λ h. (hs, grind arith)) (λ _.
    by_test P (r == 1 && t == 0) _ _ (λ h. (hs, grind arith)) (λ _. tt)))

sound_rt0 : (r s t : ℕ) → r < 16 → t < 16 → IsSoundAt (rrr 0 t s r 0 6) (read_rt0 r s t)
sound_rt0 r s t hr ht =
    let P : Option Inst → Type 0 = IsSoundAt (rrr 0 t s r 0 6) in
    by_test P (s == 0) _ _ (λ h. ((hr, ht), same_at (λ n. rrr 0 t n r 0 6) s 0 h)) (λ _.
    by_test P (s == 1) _ _ (λ h. ((hr, ht), same_at (λ n. rrr 0 t n r 0 6) s 1 h)) (λ _. tt))

pub sound_rst0 : (op2 r s t : ℕ) → r < 16 → s < 16 → t < 16 → IsSoundAt (rrr 0 t s r 0 op2) (read_rst0 op2 r s t)
sound_rst0 op2 r s t hr hs ht =
    let P : Option Inst → Type 0 = IsSoundAt (rrr 0 t s r 0 op2) in
    let word_at : ℕ → ℕ = λ n. rrr 0 t s r 0 n in
    by_test P (op2 == 0) _ _ (λ h. at_field (λ n. IsSoundAt (rrr 0 t s r 0 n) (read_st0 r s t)) op2 0 h (sound_st0 r s t hs)) (λ _.
    by_test P (op2 == 4) _ _ (λ h. at_field (λ n. IsSoundAt (rrr 0 t s r 0 n) (read_st1 r s t)) op2 4 h (sound_st1 r s t hs ht)) (λ _.
    by_test P (op2 == 6) _ _ (λ h. at_field (λ n. IsSoundAt (rrr 0 t s r 0 n) (read_rt0 r s t)) op2 6 h (sound_rt0 r s t hr ht)) (λ _.
    by_test P (op2 == 1) _ _ (λ h. ((hr, hs, ht), same_at word_at op2 1 h)) (λ _.
    by_test P (op2 == 2) _ _ (λ h. ((hr, hs, ht), same_at word_at op2 2 h)) (λ _.
    by_test P (op2 == 3) _ _ (λ h. ((hr, hs, ht), same_at word_at op2 3 h)) (λ _.
    by_test P (op2 == 8) _ _ (λ h. ((hr, hs, ht), same_at word_at op2 8 h)) (λ _.
    by_test P (op2 == 9) _ _ (λ h. ((hr, hs, ht), same_at word_at op2 9 h)) (λ _.
    by_test P (op2 == 10) _ _ (λ h. ((hr, hs, ht), same_at word_at op2 10 h)) (λ _.
    by_test P (op2 == 11) _ _ (λ h. ((hr, hs, ht), same_at word_at op2 11 h)) (λ _.
    by_test P (op2 == 12) _ _ (λ h. ((hr, hs, ht), same_at word_at op2 12 h)) (λ _.
    by_test P (op2 == 13) _ _ (λ h. ((hr, hs, ht), same_at word_at op2 13 h)) (λ _.
    by_test P (op2 == 14) _ _ (λ h. ((hr, hs, ht), same_at word_at op2 14 h)) (λ _.
    by_test P (op2 == 15) _ _ (λ h. ((hr, hs, ht), same_at word_at op2 15 h)) (λ _. tt))))))))))))))

pub read_ssai : (amount : ℤ) → IsBetween 0 31 amount → IsRead (Ssai amount)
read_ssai (pos n) h =
    let test : nat_lt (n / 16) 2 ≡ true = grind arith in
    let whole : n % 16 + 16 * (n / 16) ≡ n = omega arith in
    read_from _ 0 (n / 16) (n % 16) 4 0 4 (lit< tt) (omega arith) (omega arith) (lit< tt) (lit< tt) (lit< tt) refl
    (rw test (ap (λ m. Some (Ssai (pos m))) whole))
read_ssai (negsuc n) h = absurd (omega arith)
