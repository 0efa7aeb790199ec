-- The family of op0 0, op1 1: what is read fits and has the word, and the shifts by an amount are read from their words.
use Rattle.std.proofs.Common.{◌≡◌, ℕ, ◌+◌, ◌-◌, ◌*◌, ◌/◌, ◌%◌, ◌<◌, ℤ, pos, negsuc, Option, Some, true, false, ap, refl, arith, lit<}
use Rattle.std.specs.Prelude.{◌==◌, ◌&&◌, nat_le, nat_lt}
use Rattle.xt_isa.specs.declared.instruction.Inst.{Inst}
use Rattle.xt_isa.specs.declared.instruction.Inst.TheVariants.{Slli, Srai, Srli}
use Rattle.xt_isa.specs.Formats.{rrr}
use Rattle.xt_isa.specs.Numbers.{IsBetween}
use Rattle.xt_isa.specs.Reading.{read_rst1}
use Rattle.xt_isa.proofs.Cases.{by_test, same_at}
use Rattle.xt_isa.proofs.Fields.{IsRead, IsSoundAt, read_from}

pub sound_rst1 : (op2 r s t : ℕ) → r < 16 → s < 16 → t < 16 → IsSoundAt (rrr 0 t s r 1 op2) (read_rst1 op2 r s t)
sound_rst1 op2 r s t hr hs ht =
    let P : Option Inst → Type 0 = IsSoundAt (rrr 0 t s r 1 op2) in
    let word_at : ℕ → ℕ = λ n. rrr 0 t s r 1 n in
    by_test P (nat_lt op2 2 && nat_lt 0 (t + 16 * op2)) _ _ (λ h. ((hr, hs, (grind arith, grind arith)), grind arith)) (λ _.
    by_test P (nat_le 2 op2 && nat_lt op2 4) _ _ (λ h. ((hr, ht, (grind arith, grind arith)), grind arith)) (λ _.
    by_test P (op2 == 4) _ _ (λ h. ((hr, ht, (omega arith, omega arith)), same_at word_at op2 4 h)) (λ _.
    by_test P (op2 == 9 && s == 0) _ _ (λ h. ((hr, ht), grind arith)) (λ _.
    by_test P (op2 == 10 && t == 0) _ _ (λ h. ((hr, hs), grind arith)) (λ _.
    by_test P (op2 == 11 && s == 0) _ _ (λ h. ((hr, ht), grind arith)) (λ _.
    by_test P (op2 == 8) _ _ (λ h. ((hr, hs, ht), same_at word_at op2 8 h)) (λ _.
    by_test P (op2 == 12) _ _ (λ h. ((hr, hs, ht), same_at word_at op2 12 h)) (λ _.
    by_test P (op2 == 13) _ _ (λ h. ((hr, hs, ht), same_at word_at op2 13 h)) (λ _. tt)))))))))

-- the field holds 32 minus the amount
pub read_slli : (r s : ℕ) (amount : ℤ) → r < 16 → s < 16 → IsBetween 1 31 amount → IsRead (Slli r s amount)
read_slli r s (pos n) hr hs h =
    let low : ℕ = (32 - n) % 16 in
    let high : ℕ = (32 - n) / 16 in
    let test : (nat_lt high 2 && nat_lt 0 (low + 16 * high)) ≡ true = grind arith in
    let whole : 32 - (low + 16 * high) ≡ n = omega arith in
    read_from _ 0 low s r 1 high (lit< tt) (omega arith) hs hr (lit< tt) (omega arith) refl
    (rw test (ap (λ m. Some (Slli r s (pos m))) whole))
read_slli r s (negsuc n) hr hs h = absurd (omega arith)

pub read_srai : (r t : ℕ) (amount : ℤ) → r < 16 → t < 16 → IsBetween 0 31 amount → IsRead (Srai r t amount)
read_srai r t (pos n) hr ht h =
    let op2 : ℕ = 2 + n / 16 in
    let other : (nat_lt op2 2 && nat_lt 0 (t + 16 * op2)) ≡ false = grind arith in
    let test : (nat_le 2 op2 && nat_lt op2 4) ≡ true = grind arith in
    let whole : n % 16 + 16 * (op2 - 2) ≡ n = omega arith in
    read_from _ 0 t (n % 16) r 1 op2 (lit< tt) ht (omega arith) hr (lit< tt) (omega arith) refl
    (rw (other, test) (ap (λ m. Some (Srai r t (pos m))) whole))
read_srai r t (negsuc n) hr ht h = absurd (omega arith)

pub read_srli : (r t : ℕ) (amount : ℤ) → r < 16 → t < 16 → IsBetween 0 15 amount → IsRead (Srli r t amount)
read_srli r t (pos n) hr ht h = read_from _ 0 t n r 1 4 (lit< tt) ht (omega arith) hr (lit< tt) (lit< tt) refl refl
read_srli r t (negsuc n) hr ht h = absurd (omega arith)
