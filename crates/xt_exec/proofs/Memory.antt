-- Bytes written one by one, and read together.
use Rattle.std.proofs.Common.{◌≡◌, ℕ, suc, ◌+◌, ◌*◌, ◌/◌, ◌%◌, ◌<◌, ◌≤◌, List, [], ◌∷◌, ◌++◌, length, take, drop, slice_set, refl, sym, ap, subst, ◌∙◌, arith, drop-drop}
use Rattle.std.proofs.lemmas.List.Edits.{sets, sets-eq}
use Rattle.std.proofs.Math.Seq.{length-sets}
use Rattle.std.proofs.lemmas.Grind.{common_steps}
use Rattle.xt_exec.specs.Memory.{little_endian, low_bytes, overwritten}

-- one byte
pub overwritten_one : (m : List ℕ) (a x : ℕ) → a < length m → slice_set m a x ≡ overwritten m a (x ∷ [])
overwritten_one m a x h = sets-eq (x ∷ []) m a (omega arith)

-- two bytes
pub overwritten_two : (m : List ℕ) (a x y : ℕ) → a + 2 ≤ length m → slice_set (slice_set m a x) (a + 1) y ≡ overwritten m a (x ∷ y ∷ [])
overwritten_two m a x y h =
    let next : a + 1 ≡ suc a = omega arith in
    ap (λ n. slice_set (slice_set m a x) n y) next ∙ sets-eq (x ∷ y ∷ []) m a (omega arith)

-- some bytes, then others behind them
sets_twice : (m : List ℕ) (a : ℕ) (xs ys : List ℕ) → sets (sets m a xs) (a + length xs) ys ≡ sets m a (xs ++ ys)
sets_twice m a [] ys = let e : a + 0 ≡ a = omega arith in ap (λ n. sets m n ys) e
sets_twice m a (x ∷ xs) ys =
    let count : a + length (x ∷ xs) ≡ suc a + length xs = omega arith in
    ap (λ n. sets (sets (slice_set m a x) (suc a) xs) n ys) count ∙ sets_twice (slice_set m a x) (suc a) xs ys

pub overwritten_twice : (m : List ℕ) (a : ℕ) (xs ys : List ℕ) → a + length xs + length ys ≤ length m → overwritten (overwritten m a xs) (a + length xs) ys ≡ overwritten m a (xs ++ ys)
overwritten_twice m a xs ys h =
    let first = sets-eq xs m a (omega arith) in
    let kept = length-sets m a xs in
    let second = sets-eq ys (sets m a xs) (a + length xs) (omega arith) in
    let both = sets-eq (xs ++ ys) m a (grind (arith, common_steps)) in
    ap (λ n. overwritten n (a + length xs) ys) (sym first) ∙ sym second ∙ sets_twice m a xs ys ∙ both

-- four bytes of a number are two of its low half and two of its high half
low_bytes_four : (value : ℕ) → low_bytes 4 value ≡ low_bytes 2 (value % 65536) ++ low_bytes 2 (value / 65536)
unfolding low_bytes
low_bytes_four value =
    let b0 : value % 256 ≡ value % 65536 % 256 = omega arith in
    let b1 : value / 256 % 256 ≡ value % 65536 / 256 % 256 = omega arith in
    let b2 : value / 256 / 256 % 256 ≡ value / 65536 % 256 = omega arith in
    let b3 : value / 256 / 256 / 256 % 256 ≡ value / 65536 / 256 % 256 = omega arith in
    cc

two_low_bytes : (value : ℕ) → length (low_bytes 2 value) ≡ 2
unfolding low_bytes
two_low_bytes value = refl

pub overwritten_four : (m : List ℕ) (a value : ℕ) → a + 4 ≤ length m → overwritten (overwritten m a (low_bytes 2 (value % 65536))) (a + 2) (low_bytes 2 (value / 65536)) ≡ overwritten m a (low_bytes 4 value)
overwritten_four m a value h =
    let low = two_low_bytes (value % 65536) in
    let high = two_low_bytes (value / 65536) in
    let e = overwritten_twice m a (low_bytes 2 (value % 65536)) (low_bytes 2 (value / 65536)) (omega arith) in
    let place : a + length (low_bytes 2 (value % 65536)) ≡ a + 2 = ap (λ n. a + n) low in
    subst (λ n. overwritten (overwritten m a (low_bytes 2 (value % 65536))) n (low_bytes 2 (value / 65536)) ≡ overwritten m a (low_bytes 2 (value % 65536) ++ low_bytes 2 (value / 65536))) place e
    ∙ ap (λ bytes. overwritten m a bytes) (sym (low_bytes_four value))

-- and so they are read
little_endian_four : (xs : List ℕ) → 4 ≤ length xs → little_endian (take 4 xs) ≡ little_endian (take 2 xs) + 65536 * little_endian (take 2 (drop 2 xs))
little_endian_four [] h = absurd (omega arith)
little_endian_four (a ∷ []) h = absurd (omega arith)
little_endian_four (a ∷ b ∷ xs) h = grind arith

pub little_endian_four_at : (m : List ℕ) (a : ℕ) → a + 4 ≤ length m → little_endian (take 4 (drop a m)) ≡ little_endian (take 2 (drop a m)) + 65536 * little_endian (take 2 (drop (a + 2) m))
little_endian_four_at m a h =
    let e = little_endian_four (drop a m) (grind (arith, common_steps)) in
    subst (λ n. little_endian (take 4 (drop a m)) ≡ little_endian (take 2 (drop a m)) + 65536 * little_endian (take 2 n)) (drop-drop 2 a m) e
