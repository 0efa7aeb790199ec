-- The family of op0 7: what is read fits and has the word, and its instructions, like all with an immediate of eight bits
-- and a sign, are read from their words.
use Rattle.std.proofs.Common.{◌≡◌, ℕ, ◌+◌, ◌-◌, ◌*◌, ◌/◌, ◌%◌, ◌<◌, ℤ, pos, negsuc, Option, Some, true, false, ap, sym, ◌∙◌, refl, arith, lit<}
use Rattle.std.specs.Prelude.{◌==◌, ◌&&◌, nat_le, nat_lt}
use Rattle.xt_isa.specs.declared.instruction.Inst.{Inst}
use Rattle.xt_isa.specs.declared.instruction.Inst.TheVariants.{Bbci, Bbsi}
use Rattle.xt_isa.specs.Formats.{rri8, rrr}
use Rattle.xt_isa.specs.Numbers.{IsBetween, IsSigned, signed_value, twos_complement}
use Rattle.xt_isa.specs.Reading.{read_b, read_fields}
use Rattle.xt_isa.specs.Table.{word}
use Rattle.xt_isa.proofs.Cases.{by_test, same_at}
use Rattle.xt_isa.proofs.Fields.{IsRead, IsSoundAt, read_from}
use Rattle.xt_isa.proofs.NumberLemmas.{signed_value-twos_complement, signed_value_signed, twos_complement-signed_value, twos_complement_small}

-- the word of a branch on two registers
branch_word : (r k s t imm8 : ℕ) → imm8 < 256 → (r == k) ≡ true → rri8 7 t s r imm8 ≡ rri8 7 t s k (twos_complement 128 (signed_value 128 imm8))
branch_word r k s t imm8 hi h =
    let code : imm8 < 2 * 128 = hi in
    same_at (λ n. rri8 7 t s n imm8) r k h ∙ ap (λ n. rri8 7 t s k n) (sym (twos_complement-signed_value 128 imm8 code))

pub sound_b : (r s t imm8 : ℕ) → r < 16 → s < 16 → t < 16 → imm8 < 256 → IsSoundAt (rri8 7 t s r imm8) (read_b r s t imm8)
sound_b r s t imm8 hr hs ht hi =
    let P : Option Inst → Type 0 = IsSoundAt (rri8 7 t s r imm8) in
    let code : imm8 < 2 * 128 = hi in
    let same = twos_complement-signed_value 128 imm8 code in
    let signed = signed_value_signed 128 imm8 code in
    by_test P (nat_le 6 r && nat_lt r 8) _ _ (λ h. ((hs, (grind arith, grind arith), signed), rw same (grind arith))) (λ _.
    by_test P (nat_le 14 r) _ _ (λ h. ((hs, (grind arith, grind arith), signed), rw same (grind arith))) (λ _.
    by_test P (r == 0) _ _ (λ h. ((hs, ht, signed), branch_word r 0 s t imm8 hi h)) (λ _.
    by_test P (r == 1) _ _ (λ h. ((hs, ht, signed), branch_word r 1 s t imm8 hi h)) (λ _.
    by_test P (r == 2) _ _ (λ h. ((hs, ht, signed), branch_word r 2 s t imm8 hi h)) (λ _.
    by_test P (r == 3) _ _ (λ h. ((hs, ht, signed), branch_word r 3 s t imm8 hi h)) (λ _.
    by_test P (r == 4) _ _ (λ h. ((hs, ht, signed), branch_word r 4 s t imm8 hi h)) (λ _.
    by_test P (r == 5) _ _ (λ h. ((hs, ht, signed), branch_word r 5 s t imm8 hi h)) (λ _.
    by_test P (r == 8) _ _ (λ h. ((hs, ht, signed), branch_word r 8 s t imm8 hi h)) (λ _.
    by_test P (r == 9) _ _ (λ h. ((hs, ht, signed), branch_word r 9 s t imm8 hi h)) (λ _.
    by_test P (r == 10) _ _ (λ h. ((hs, ht, signed), branch_word r 10 s t imm8 hi h)) (λ _.
    by_test P (r == 11) _ _ (λ h. ((hs, ht, signed), branch_word r 11 s t imm8 hi h)) (λ _.
    by_test P (r == 12) _ _ (λ h. ((hs, ht, signed), branch_word r 12 s t imm8 hi h)) (λ _.
    by_test P (r == 13) _ _ (λ h. ((hs, ht, signed), branch_word r 13 s t imm8 hi h)) (λ _. tt))))))))))))))

-- a row with an immediate of eight bits and a sign, given that its fields read as it
pub read_near : (make : ℤ → Inst) (op0 t s r : ℕ) (value : ℤ) → op0 < 16 → t < 16 → s < 16 → r < 16 → IsSigned 128 value → ((op1 op2 : ℕ) → read_fields op0 t s r op1 op2 ≡ Some (make (signed_value 128 (op1 + 16 * op2)))) → rri8 op0 t s r (twos_complement 128 value) ≡ word (make value) → IsRead (make value)
read_near make op0 t s r value h0 ht hs hr h reads w =
    let small = twos_complement_small 128 value h in
    let code : ℕ = twos_complement 128 value in
    let whole : code % 16 + 16 * (code / 16) ≡ code = omega arith in
    let joined : rrr op0 t s r (code % 16) (code / 16) ≡ rri8 op0 t s r code = omega arith in
    read_from _ op0 t s r (code % 16) (code / 16) h0 ht hs hr (omega arith) (omega arith) (joined ∙ w)
    (reads _ _ ∙ ap (λ n. Some (make (signed_value 128 n))) whole ∙ ap (λ z. Some (make z)) (signed_value-twos_complement 128 value h))

pub read_bbci : (s : ℕ) (bit target : ℤ) → s < 16 → IsBetween 0 31 bit → IsSigned 128 target → IsRead (Bbci s bit target)
read_bbci s (pos n) target hs hb h =
    let r : ℕ = 6 + n / 16 in
    let test : (nat_le 6 r && nat_lt r 8) ≡ true = grind arith in
    let whole : n % 16 + 16 * (r - 6) ≡ n = omega arith in
    read_near (λ z. Bbci s (pos n) z) 7 (n % 16) s r target (lit< tt) (omega arith) hs (omega arith) h
    (λ op1 op2. rw test (ap (λ m. Some (Bbci s (pos m) (signed_value 128 (op1 + 16 * op2)))) whole)) refl
read_bbci s (negsuc n) target hs hb h = absurd (omega arith)

pub read_bbsi : (s : ℕ) (bit target : ℤ) → s < 16 → IsBetween 0 31 bit → IsSigned 128 target → IsRead (Bbsi s bit target)
read_bbsi s (pos n) target hs hb h =
    let r : ℕ = 14 + n / 16 in
    let other : (nat_le 6 r && nat_lt r 8) ≡ false = grind arith in
    let test : nat_le 14 r ≡ true = grind arith in
    let whole : n % 16 + 16 * (r - 14) ≡ n = omega arith in
    read_near (λ z. Bbsi s (pos n) z) 7 (n % 16) s r target (lit< tt) (omega arith) hs (omega arith) h
    (λ op1 op2. rw (other, test) (ap (λ m. Some (Bbsi s (pos m) (signed_value 128 (op1 + 16 * op2)))) whole)) refl
read_bbsi s (negsuc n) target hs hb h = absurd (omega arith)
