-- The longest mark at the front, from its first two bytes.
use Rattle.std.proofs.Common.{◌≡◌, ℕ, zero, suc, ◌≤◌, ◌<◌, Bool, true, false, List, [], ◌∷◌, length, take, refl, arith, ◌&&◌}
use Rattle.tie_lexer.specs.Bytes.{byte_at}
use Rattle.tie_lexer.specs.Pieces.{is_mark, IsMark, HasNoMark}

and_false : (b : Bool) → (b && false) ≡ false
and_false true = refl
and_false false = refl

-- a mark has no byte 0
no_zero : (a : ℕ) → is_mark (a ∷ 0 ∷ []) ≡ false
no_zero a = simp and_false

-- no mark has three bytes
three_bytes : (a b : ℕ) (rest : List ℕ) (m : ℕ) → 2 < m → m ≤ length (a ∷ b ∷ rest) → is_mark (take m (a ∷ b ∷ rest)) ≡ false
three_bytes a b rest zero low high = absurd (omega arith)
three_bytes a b rest (suc zero) low high = absurd (omega arith)
three_bytes a b rest (suc (suc zero)) low high = absurd (omega arith)
three_bytes a b [] (suc (suc (suc m))) low high = absurd (omega arith)
three_bytes a b (c ∷ rest) (suc (suc (suc m))) low high = refl

two_bytes : (a : ℕ) (rest : List ℕ) (m : ℕ) → is_mark (a ∷ byte_at rest 0 ∷ []) ≡ false → 1 < m → m ≤ length (a ∷ rest) → is_mark (take m (a ∷ rest)) ≡ false
two_bytes a rest zero none low high = absurd (omega arith)
two_bytes a rest (suc zero) none low high = absurd (omega arith)
two_bytes a [] (suc (suc m)) none low high = absurd (omega arith)
two_bytes a (b ∷ rest) (suc (suc zero)) none low high = none
two_bytes a (b ∷ rest) (suc (suc (suc m))) none low high = three_bytes a b rest (suc (suc (suc m))) (omega arith) high

pub mark_of_two : (rest : List ℕ) → is_mark (byte_at rest 0 ∷ byte_at rest 1 ∷ []) ≡ true → IsMark rest 2
mark_of_two [] h = cc
mark_of_two (a ∷ []) h = let n = no_zero a in cc
mark_of_two (a ∷ b ∷ rest) h = record { within = omega arith; mark = h; longest = three_bytes a b rest }

pub mark_of_one : (rest : List ℕ) → is_mark (byte_at rest 0 ∷ byte_at rest 1 ∷ []) ≡ false → is_mark (byte_at rest 0 ∷ []) ≡ true → IsMark rest 1
mark_of_one [] none h = cc
mark_of_one (a ∷ rest) none h = record { within = omega arith; mark = h; longest = λ m. two_bytes a rest m none }

pub no_mark : (rest : List ℕ) → is_mark (byte_at rest 0 ∷ byte_at rest 1 ∷ []) ≡ false → is_mark (byte_at rest 0 ∷ []) ≡ false → HasNoMark rest
no_mark [] two one zero high = refl
no_mark [] two one (suc m) high = absurd (omega arith)
no_mark (a ∷ rest) two one zero high = refl
no_mark (a ∷ rest) two one (suc zero) high = one
no_mark (a ∷ rest) two one (suc (suc m)) high = two_bytes a rest (suc (suc m)) two (omega arith) high
