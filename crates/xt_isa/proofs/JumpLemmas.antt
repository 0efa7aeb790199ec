-- The families of op0 1, 5 and 6: what is read fits and has the word, and each instruction is read from its word.
use Rattle.std.proofs.Common.{◌≡◌, ℕ, ◌+◌, ◌-◌, ◌*◌, ◌/◌, ◌%◌, ◌<◌, ℤ, pos, negsuc, Option, Some, true, ap, ◌∙◌, arith, lit<}
use Rattle.std.specs.Prelude.{◌==◌}
use Rattle.xt_isa.specs.declared.instruction.Inst.{Inst}
use Rattle.xt_isa.specs.declared.instruction.Inst.TheVariants.{Call0, J, L32r}
use Rattle.xt_isa.specs.Formats.{bri12, ri16, rrr}
use Rattle.xt_isa.specs.Numbers.{IsBackward, IsMultiple, IsSigned, signed_value, twos_complement}
use Rattle.xt_isa.specs.Reading.{read_bi, read_bz, read_calls, read_fields, read_l32r, read_si}
use Rattle.xt_isa.specs.Table.{word}
use Rattle.xt_isa.proofs.Cases.{by_test}
use Rattle.xt_isa.proofs.ConstantLemmas.{constant_code-at, constant_code_small, unsigned_code-at, unsigned_code_small}
use Rattle.xt_isa.proofs.Fields.{IsRead, IsSoundAt, read_from}
use Rattle.xt_isa.proofs.NumberLemmas.{signed_value-twos_complement, signed_value_multiple_4, signed_value_signed, twos_complement-signed_value, twos_complement_multiple_4, twos_complement_small}

pub sound_l32r : (t imm16 : ℕ) → t < 16 → imm16 < 65536 → IsSoundAt (ri16 1 t imm16) (read_l32r t imm16)
sound_l32r t imm16 ht h = ((ht, omega arith, omega arith), omega arith)

pub sound_calls : (t s r op1 op2 : ℕ) → t < 16 → s < 16 → r < 16 → op1 < 16 → op2 < 16 → IsSoundAt (rrr 5 t s r op1 op2) (read_calls t (t / 4 + 4 * s + 64 * r + 1024 * op1 + 16384 * op2))
sound_calls t s r op1 op2 ht hs hr h1 h2 =
    let P : Option Inst → Type 0 = IsSoundAt (rrr 5 t s r op1 op2) in
    let offset : ℕ = t / 4 + 4 * s + 64 * r + 1024 * op1 + 16384 * op2 in
    let small : offset < 262144 = omega arith in
    let code : 4 * offset < 2 * 524288 = omega arith in
    let same = twos_complement-signed_value 524288 (4 * offset) code in
    by_test P (t % 4 == 0) _ _ (λ h. ((signed_value_signed 524288 _ code, signed_value_multiple_4 offset small), rw same (grind arith))) (λ _. tt)

sound_bz : (t s r op1 op2 : ℕ) → s < 16 → r < 16 → op1 < 16 → op2 < 16 → IsSoundAt (rrr 6 t s r op1 op2) (read_bz t s (r + 16 * op1 + 256 * op2))
sound_bz t s r op1 op2 hs hr h1 h2 =
    let P : Option Inst → Type 0 = IsSoundAt (rrr 6 t s r op1 op2) in
    let code : r + 16 * op1 + 256 * op2 < 2 * 2048 = omega arith in
    let same = twos_complement-signed_value 2048 (r + 16 * op1 + 256 * op2) code in
    let signed = signed_value_signed 2048 _ code in
    by_test P (t == 1) _ _ (λ h. ((hs, signed), rw same (grind arith))) (λ _.
    by_test P (t == 5) _ _ (λ h. ((hs, signed), rw same (grind arith))) (λ _.
    by_test P (t == 9) _ _ (λ h. ((hs, signed), rw same (grind arith))) (λ _.
    by_test P (t == 13) _ _ (λ h. ((hs, signed), rw same (grind arith))) (λ _. tt))))

sound_bi : (t s r op1 op2 : ℕ) → s < 16 → r < 16 → op1 < 16 → op2 < 16 → IsSoundAt (rrr 6 t s r op1 op2) (read_bi t r s (op1 + 16 * op2))
sound_bi t s r op1 op2 hs hr h1 h2 =
    let P : Option Inst → Type 0 = IsSoundAt (rrr 6 t s r op1 op2) in
    let code : op1 + 16 * op2 < 2 * 128 = omega arith in
    let same = twos_complement-signed_value 128 (op1 + 16 * op2) code in
    let signed = signed_value_signed 128 _ code in
    let constant = constant_code-at r hr in
    let natural = unsigned_code-at r hr in
    by_test P (t == 2) _ _ (λ h. ((hs, constant_code_small r hr, signed), rw (same, constant) (grind arith))) (λ _.
    by_test P (t == 6) _ _ (λ h. ((hs, constant_code_small r hr, signed), rw (same, constant) (grind arith))) (λ _.
    by_test P (t == 10) _ _ (λ h. ((hs, constant_code_small r hr, signed), rw (same, constant) (grind arith))) (λ _.
    by_test P (t == 14) _ _ (λ h. ((hs, constant_code_small r hr, signed), rw (same, constant) (grind arith))) (λ _.
    by_test P (t == 11) _ _ (λ h. ((hs, unsigned_code_small r hr, signed), rw (same, natural) (grind arith))) (λ _.
    by_test P (t == 15) _ _ (λ h. ((hs, unsigned_code_small r hr, signed), rw (same, natural) (grind arith))) (λ _. tt))))))

pub sound_si : (t s r op1 op2 : ℕ) → t < 16 → s < 16 → r < 16 → op1 < 16 → op2 < 16 → IsSoundAt (rrr 6 t s r op1 op2) (read_si t r s (op1 + 16 * op2) (r + 16 * op1 + 256 * op2) (t / 4 + 4 * s + 64 * r + 1024 * op1 + 16384 * op2))
sound_si t s r op1 op2 ht hs hr h1 h2 =
    let P : Option Inst → Type 0 = IsSoundAt (rrr 6 t s r op1 op2) in
    let offset : ℕ = t / 4 + 4 * s + 64 * r + 1024 * op1 + 16384 * op2 in
    let code : offset < 2 * 131072 = omega arith in
    let same = twos_complement-signed_value 131072 offset code in
    by_test P (t % 4 == 0) _ _ (λ h. (signed_value_signed 131072 _ code, rw same (grind arith))) (λ _.
    by_test P (t % 4 == 1) _ _ (λ _. sound_bz t s r op1 op2 hs hr h1 h2) (λ _. sound_bi t s r op1 op2 hs hr h1 h2))

-- the sixteen bits of an offset that is a multiple of 4 from -262144 to -4
pub read_l32r_row : (t : ℕ) (target : ℤ) → t < 16 → IsBackward 262144 target → IsMultiple 4 target → IsRead (L32r t target)
read_l32r_row t (pos n) ht h k = absurd (omega arith)
read_l32r_row t (negsuc n) ht h k =
    let m : ℕ = (262143 - n) / 4 in
    let whole : 262143 - 4 * (m % 16 + 16 * (m / 16 % 16) + 256 * (m / 256 % 16) + 4096 * (m / 4096)) ≡ n = omega arith in
    read_from _ 1 t (m % 16) (m / 16 % 16) (m / 256 % 16) (m / 4096) (lit< tt) ht (omega arith) (omega arith) (omega arith) (omega arith) (omega arith)
    (ap (λ i. Some (L32r t (negsuc i))) whole)

-- eighteen bits above two that are 0
from_offset : (inst : Inst) (op0 m : ℕ) → op0 < 16 → m < 262144 → op0 + 64 * m ≡ word inst → read_fields op0 (4 * (m % 4)) (m / 4 % 16) (m / 64 % 16) (m / 1024 % 16) (m / 16384) ≡ Some inst → IsRead inst
from_offset inst op0 m h0 h w e = read_from inst op0 (4 * (m % 4)) (m / 4 % 16) (m / 64 % 16) (m / 1024 % 16) (m / 16384) h0 (omega arith) (omega arith) (omega arith) (omega arith) (omega arith) (omega arith) e

pub read_call0 : (target : ℤ) → IsSigned 524288 target → IsMultiple 4 target → IsRead (Call0 target)
read_call0 target h k =
    let small = twos_complement_small 524288 target h in
    let multiple = twos_complement_multiple_4 target h k in
    let m : ℕ = twos_complement 524288 target / 4 in
    let test : (4 * (m % 4) % 4 == 0) ≡ true = grind arith in
    let whole : 4 * (4 * (m % 4) / 4 + 4 * (m / 4 % 16) + 64 * (m / 64 % 16) + 1024 * (m / 1024 % 16) + 16384 * (m / 16384)) ≡ twos_complement 524288 target = omega arith in
    from_offset _ 5 m (lit< tt) (omega arith) (omega arith)
    (rw test (ap (λ n. Some (Call0 (signed_value 524288 n))) whole ∙ ap (λ z. Some (Call0 z)) (signed_value-twos_complement 524288 target h)))

pub read_j : (target : ℤ) → IsSigned 131072 target → IsRead (J target)
read_j target h =
    let small = twos_complement_small 131072 target h in
    let m : ℕ = twos_complement 131072 target in
    let test : (4 * (m % 4) % 4 == 0) ≡ true = grind arith in
    let whole : 4 * (m % 4) / 4 + 4 * (m / 4 % 16) + 64 * (m / 64 % 16) + 1024 * (m / 1024 % 16) + 16384 * (m / 16384) ≡ m = omega arith in
    from_offset _ 6 m (lit< tt) (omega arith) (omega arith)
    (rw test (ap (λ n. Some (J (signed_value 131072 n))) whole ∙ ap (λ z. Some (J z)) (signed_value-twos_complement 131072 target h)))

-- a branch on one register, given that its fields read as it
pub read_far : (make : ℤ → Inst) (m s : ℕ) (target : ℤ) → m < 4 → s < 16 → IsSigned 2048 target → ((r op1 op2 : ℕ) → read_fields 6 (1 + 4 * m) s r op1 op2 ≡ Some (make (signed_value 2048 (r + 16 * op1 + 256 * op2)))) → bri12 6 1 m s (twos_complement 2048 target) ≡ word (make target) → IsRead (make target)
read_far make m s target hm hs h reads w =
    let small = twos_complement_small 2048 target h in
    let code : ℕ = twos_complement 2048 target in
    let whole : code % 16 + 16 * (code / 16 % 16) + 256 * (code / 256) ≡ code = omega arith in
    let joined : rrr 6 (1 + 4 * m) s (code % 16) (code / 16 % 16) (code / 256) ≡ bri12 6 1 m s code = omega arith in
    read_from _ 6 (1 + 4 * m) s (code % 16) (code / 16 % 16) (code / 256) (lit< tt) (omega arith) hs (omega arith) (omega arith) (omega arith) (joined ∙ w)
    (reads _ _ _ ∙ ap (λ n. Some (make (signed_value 2048 n))) whole ∙ ap (λ z. Some (make z)) (signed_value-twos_complement 2048 target h))
