-- The family of op0 2: what is read fits and has the word, and each instruction is read from its word.
use Rattle.std.proofs.Common.{◌≡◌, ℕ, ◌+◌, ◌*◌, ◌/◌, ◌%◌, ◌<◌, ℤ, pos, negsuc, Option, Some, ap, ◌∙◌, arith, lit<}
use Rattle.std.specs.Prelude.{◌==◌, unsigned_abs}
use Rattle.xt_isa.specs.declared.instruction.Inst.{Inst}
use Rattle.xt_isa.specs.declared.instruction.Inst.TheVariants.{Addmi, Movi}
use Rattle.xt_isa.specs.Formats.{rri8, rrr}
use Rattle.xt_isa.specs.Numbers.{IsBetween, IsMultiple, IsSigned, signed_value, twos_complement}
use Rattle.xt_isa.specs.Reading.{read_fields, read_lsai}
use Rattle.xt_isa.specs.Table.{word}
use Rattle.xt_isa.proofs.Cases.{by_test, same_at}
use Rattle.xt_isa.proofs.Fields.{IsRead, IsSoundAt, read_from}
use Rattle.xt_isa.proofs.NumberLemmas.{signed_value-twos_complement, signed_value_multiple_256, signed_value_signed, twos_complement-signed_value, twos_complement_multiple_256, twos_complement_small}

pub sound_lsai : (r s t imm8 : ℕ) → s < 16 → t < 16 → imm8 < 256 → IsSoundAt (rri8 2 t s r imm8) (read_lsai r s t imm8)
sound_lsai r s t imm8 hs ht hi =
    let P : Option Inst → Type 0 = IsSoundAt (rri8 2 t s r imm8) in
    let word_at : ℕ → ℕ = λ n. rri8 2 t s n imm8 in
    let eight : imm8 < 2 * 128 = hi in
    let twelve : imm8 + 256 * s < 2 * 2048 = omega arith in
    let sixteen : 256 * imm8 < 2 * 32768 = omega arith in
    let code8 = twos_complement-signed_value 128 imm8 eight in
    let code12 = twos_complement-signed_value 2048 (imm8 + 256 * s) twelve in
    let code16 = twos_complement-signed_value 32768 (256 * imm8) sixteen in
    let half : imm8 ≡ 2 * imm8 / 2 = omega arith in
    let quarter : imm8 ≡ 4 * imm8 / 4 = omega arith in
    by_test P (r == 0) _ _ (λ h. ((ht, hs, (omega arith, omega arith)), same_at word_at r 0 h)) (λ _.
    by_test P (r == 1) _ _ (λ h. ((ht, hs, (omega arith, omega arith), omega arith), same_at word_at r 1 h ∙ ap (λ n. rri8 2 t s 1 n) half)) (λ _.
    by_test P (r == 2) _ _ (λ h. ((ht, hs, (omega arith, omega arith), omega arith), same_at word_at r 2 h ∙ ap (λ n. rri8 2 t s 2 n) quarter)) (λ _.
    by_test P (r == 4) _ _ (λ h. ((ht, hs, (omega arith, omega arith)), same_at word_at r 4 h)) (λ _.
    by_test P (r == 5) _ _ (λ h. ((ht, hs, (omega arith, omega arith), omega arith), same_at word_at r 5 h ∙ ap (λ n. rri8 2 t s 5 n) half)) (λ _.
    by_test P (r == 6) _ _ (λ h. ((ht, hs, (omega arith, omega arith), omega arith), same_at word_at r 6 h ∙ ap (λ n. rri8 2 t s 6 n) quarter)) (λ _.
    by_test P (r == 9) _ _ (λ h. ((ht, hs, (omega arith, omega arith), omega arith), same_at word_at r 9 h ∙ ap (λ n. rri8 2 t s 9 n) half)) (λ _.
    by_test P (r == 10) _ _ (λ h. ((ht, signed_value_signed 2048 _ twelve), rw code12 (grind arith))) (λ _.
    by_test P (r == 12) _ _ (λ h. ((ht, hs, signed_value_signed 128 _ eight), rw code8 (grind arith))) (λ _.
    by_test P (r == 13) _ _ (λ h. ((ht, hs, signed_value_signed 32768 _ sixteen, signed_value_multiple_256 imm8 hi), rw code16 (grind arith))) (λ _. tt))))))))))

-- a row with an offset in bytes, given that its fields read as it
pub read_bytes : (make : ℤ → Inst) (r t s : ℕ) (offset : ℤ) → r < 16 → t < 16 → s < 16 → IsBetween 0 255 offset → ((code : ℕ) → read_fields 2 t s r (code % 16) (code / 16) ≡ Some (make (pos (code % 16 + 16 * (code / 16))))) → rri8 2 t s r (unsigned_abs offset) ≡ word (make offset) → IsRead (make offset)
read_bytes make r t s (pos n) hr ht hs h reads w =
    let whole : n % 16 + 16 * (n / 16) ≡ n = omega arith in
    let joined : rrr 2 t s r (n % 16) (n / 16) ≡ rri8 2 t s r n = omega arith in
    read_from _ 2 t s r (n % 16) (n / 16) (lit< tt) ht hs hr (omega arith) (omega arith) (joined ∙ w) (reads n ∙ ap (λ m. Some (make (pos m))) whole)
read_bytes make r t s (negsuc n) hr ht hs h reads w = absurd (omega arith)

-- the same with an offset in half words
pub read_halves : (make : ℤ → Inst) (r t s : ℕ) (offset : ℤ) → r < 16 → t < 16 → s < 16 → IsBetween 0 510 offset → IsMultiple 2 offset → ((code : ℕ) → read_fields 2 t s r (code % 16) (code / 16) ≡ Some (make (pos (2 * (code % 16 + 16 * (code / 16)))))) → rri8 2 t s r (unsigned_abs offset / 2) ≡ word (make offset) → IsRead (make offset)
read_halves make r t s (pos n) hr ht hs h k reads w =
    let m : ℕ = n / 2 in
    let whole : 2 * (m % 16 + 16 * (m / 16)) ≡ n = omega arith in
    let joined : rrr 2 t s r (m % 16) (m / 16) ≡ rri8 2 t s r m = omega arith in
    read_from _ 2 t s r (m % 16) (m / 16) (lit< tt) ht hs hr (omega arith) (omega arith) (joined ∙ w) (reads m ∙ ap (λ m. Some (make (pos m))) whole)
read_halves make r t s (negsuc n) hr ht hs h k reads w = absurd (omega arith)

-- the same with an offset in words
pub read_words : (make : ℤ → Inst) (r t s : ℕ) (offset : ℤ) → r < 16 → t < 16 → s < 16 → IsBetween 0 1020 offset → IsMultiple 4 offset → ((code : ℕ) → read_fields 2 t s r (code % 16) (code / 16) ≡ Some (make (pos (4 * (code % 16 + 16 * (code / 16)))))) → rri8 2 t s r (unsigned_abs offset / 4) ≡ word (make offset) → IsRead (make offset)
read_words make r t s (pos n) hr ht hs h k reads w =
    let m : ℕ = n / 4 in
    let whole : 4 * (m % 16 + 16 * (m / 16)) ≡ n = omega arith in
    let joined : rrr 2 t s r (m % 16) (m / 16) ≡ rri8 2 t s r m = omega arith in
    read_from _ 2 t s r (m % 16) (m / 16) (lit< tt) ht hs hr (omega arith) (omega arith) (joined ∙ w) (reads m ∙ ap (λ m. Some (make (pos m))) whole)
read_words make r t s (negsuc n) hr ht hs h k reads w = absurd (omega arith)

pub read_movi : (t : ℕ) (value : ℤ) → t < 16 → IsSigned 2048 value → IsRead (Movi t value)
read_movi t value ht h =
    let small = twos_complement_small 2048 value h in
    let code : ℕ = twos_complement 2048 value in
    let whole : code % 256 % 16 + 16 * (code % 256 / 16) + 256 * (code / 256) ≡ code = omega arith in
    read_from _ 2 t (code / 256) 10 (code % 256 % 16) (code % 256 / 16) (lit< tt) ht (omega arith) (lit< tt) (omega arith) (omega arith) (omega arith)
    (ap (λ n. Some (Movi t (signed_value 2048 n))) whole ∙ ap (λ z. Some (Movi t z)) (signed_value-twos_complement 2048 value h))

pub read_addmi : (t s : ℕ) (value : ℤ) → t < 16 → s < 16 → IsSigned 32768 value → IsMultiple 256 value → IsRead (Addmi t s value)
read_addmi t s value ht hs h k =
    let small = twos_complement_small 32768 value h in
    let multiple : twos_complement 32768 value % 256 ≡ 0 = twos_complement_multiple_256 value h k in
    let code : ℕ = twos_complement 32768 value / 256 in
    let whole : 256 * (code % 16 + 16 * (code / 16)) ≡ twos_complement 32768 value = omega arith in
    read_from _ 2 t s 13 (code % 16) (code / 16) (lit< tt) ht hs (lit< tt) (omega arith) (omega arith) (omega arith)
    (ap (λ n. Some (Addmi t s (signed_value 32768 n))) whole ∙ ap (λ z. Some (Addmi t s z)) (signed_value-twos_complement 32768 value h))
