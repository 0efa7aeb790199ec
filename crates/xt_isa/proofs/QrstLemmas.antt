-- The family of op0 0: what is read fits and has the word, EXTUI and the rows of three registers are read from their words.
use Rattle.std.proofs.Common.{◌≡◌, ℕ, ◌+◌, ◌-◌, ◌*◌, ◌/◌, ◌%◌, ◌<◌, ℤ, pos, negsuc, Option, Some, true, ap, ◌∙◌, refl, arith, lit<}
use Rattle.std.specs.Prelude.{◌==◌, ◌&&◌, nat_le, nat_lt}
use Rattle.xt_isa.specs.declared.instruction.Inst.{Inst}
use Rattle.xt_isa.specs.declared.instruction.Inst.TheVariants.{Extui}
use Rattle.xt_isa.specs.Formats.{rrr}
use Rattle.xt_isa.specs.Numbers.{IsBetween}
use Rattle.xt_isa.specs.Reading.{read_fields, read_qrst, read_rst0, read_rst1, read_rst2, read_rst3}
use Rattle.xt_isa.specs.Table.{word}
use Rattle.xt_isa.proofs.Cases.{at_field, by_test, same_at}
use Rattle.xt_isa.proofs.Fields.{IsRead, IsSoundAt, read_from}
use Rattle.xt_isa.proofs.Rst0Lemmas.{sound_rst0}
use Rattle.xt_isa.proofs.Rst1Lemmas.{sound_rst1}
use Rattle.xt_isa.proofs.Rst3Lemmas.{sound_rst3}

sound_rst2 : (op2 r s t : ℕ) → r < 16 → s < 16 → t < 16 → IsSoundAt (rrr 0 t s r 2 op2) (read_rst2 op2 r s t)
sound_rst2 op2 r s t hr hs ht =
    by_test (IsSoundAt (rrr 0 t s r 2 op2)) (op2 == 8) _ _ (λ h. ((hr, hs, ht), same_at (λ n. rrr 0 t s r 2 n) op2 8 h)) (λ _. tt)

pub sound_qrst : (op1 op2 r s t : ℕ) → op2 < 16 → r < 16 → s < 16 → t < 16 → IsSoundAt (rrr 0 t s r op1 op2) (read_qrst op1 op2 r s t)
sound_qrst op1 op2 r s t h2 hr hs ht =
    let P : Option Inst → Type 0 = IsSoundAt (rrr 0 t s r op1 op2) in
    by_test P (nat_le 4 op1 && nat_lt op1 6) _ _ (λ h. ((hr, ht, (grind arith, grind arith), (omega arith, omega arith)), grind arith)) (λ _.
    by_test P (op1 == 0) _ _ (λ h. at_field (λ n. IsSoundAt (rrr 0 t s r n op2) (read_rst0 op2 r s t)) op1 0 h (sound_rst0 op2 r s t hr hs ht)) (λ _.
    by_test P (op1 == 1) _ _ (λ h. at_field (λ n. IsSoundAt (rrr 0 t s r n op2) (read_rst1 op2 r s t)) op1 1 h (sound_rst1 op2 r s t hr hs ht)) (λ _.
    by_test P (op1 == 2) _ _ (λ h. at_field (λ n. IsSoundAt (rrr 0 t s r n op2) (read_rst2 op2 r s t)) op1 2 h (sound_rst2 op2 r s t hr hs ht)) (λ _.
    by_test P (op1 == 3) _ _ (λ h. at_field (λ n. IsSoundAt (rrr 0 t s r n op2) (read_rst3 op2 r s t)) op1 3 h (sound_rst3 op2 r s t hr hs ht)) (λ _. tt)))))

pub read_extui : (r t : ℕ) (shift width : ℤ) → r < 16 → t < 16 → IsBetween 0 31 shift → IsBetween 1 16 width → IsRead (Extui r t shift width)
read_extui r t (pos m) (pos n) hr ht h k =
    let op1 : ℕ = 4 + m / 16 in
    let test : (nat_le 4 op1 && nat_lt op1 6) ≡ true = grind arith in
    let shift : m % 16 + 16 * (op1 - 4) ≡ m = omega arith in
    let width : n - 1 + 1 ≡ n = omega arith in
    read_from _ 0 t (m % 16) r op1 (n - 1) (lit< tt) ht (omega arith) hr (omega arith) (omega arith) refl
    (rw test (ap (λ k. Some (Extui r t (pos k) (pos (n - 1 + 1)))) shift ∙ ap (λ k. Some (Extui r t (pos m) (pos k))) width))
read_extui r t (negsuc m) width hr ht h k = absurd (omega arith)
read_extui r t (pos m) (negsuc n) hr ht h k = absurd (omega arith)

-- a row of three registers, given that its fields read as it
pub read_three : (inst : Inst) (r s t op1 op2 : ℕ) → (r < 16) × (s < 16) × (t < 16) → op1 < 16 → op2 < 16 → rrr 0 t s r op1 op2 ≡ word inst → read_fields 0 t s r op1 op2 ≡ Some inst → IsRead inst
read_three inst r s t op1 op2 h h1 h2 w e = read_from inst 0 t s r op1 op2 (lit< tt) h.2 h.1 h.0 h1 h2 w e
