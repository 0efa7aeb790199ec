-- What tests of bytes tell.
use Rattle.std.proofs.Common.{◌≡◌, ℕ, suc, ◌+◌, ◌≤◌, ◌<◌, ◌⊎◌, inl, inr, Bool, true, false, cond, List, [], ◌∷◌, length, refl, ap, arith, ◌&&◌, ◌==◌, eqb-true}
use Rattle.std.specs.List.{prefix_len}
use Rattle.std.proofs.lemmas.List.{get_or_past}
use Rattle.tie_lexer.specs.Bytes.{byte_at, first, is_digit_of}
use Rattle.tie_lexer.specs.Pieces.{stand_at}

pub told : (b : Bool) → (b ≡ true) ⊎ (b ≡ false)
told true = inl refl
told false = inr refl

pub both : (s t : Bool) → (s && t) ≡ true → (s ≡ true) × (t ≡ true)
both true t h = (refl, h)
both false t h = cc

pub stands : (bytes : List ℕ) (at a b : ℕ) → stand_at bytes at a b ≡ true → (byte_at bytes at ≡ a) × (byte_at bytes (at + 1) ≡ b)
stands bytes at a b h =
    let parts = both (byte_at bytes at == a) (byte_at bytes (at + 1) == b) h in
    (eqb-true (byte_at bytes at) a parts.0, eqb-true (byte_at bytes (at + 1)) b parts.1)

pub below_or_not : (m n : ℕ) → (m < n) ⊎ (n ≤ m)
below_or_not m n = grind arith

at_some_by : (bytes : List ℕ) (at b : ℕ) → byte_at bytes at ≡ suc b → (at < length bytes) ⊎ (length bytes ≤ at) → at < length bytes
at_some_by bytes at b h (inl l) = l
at_some_by bytes at b h (inr g) = let z = get_or_past bytes at 0 g in absurd (omega (arith, h, z))

-- behind the end there is only 0
pub at_some : (bytes : List ℕ) (at b : ℕ) → byte_at bytes at ≡ suc b → at < length bytes
at_some bytes at b h = at_some_by bytes at b h (below_or_not at (length bytes))

all_false : (s t : Bool) → cond s false (cond t false false) ≡ false
all_false true t = refl
all_false false true = refl
all_false false false = refl

-- 0 is no digit
pub zero_no_digit : (letter : ℕ) → is_digit_of letter 0 ≡ false
zero_no_digit letter = all_false (letter == 104) (letter == 100)

pub prefix_some : (p : ℕ → Bool) (xs : List ℕ) → 0 < length xs → p (first xs) ≡ true → 0 < prefix_len p xs
prefix_some p [] some h = absurd (omega arith)
prefix_some p (x ∷ xs) some h = let e : cond (p x) (1 + prefix_len p xs) 0 ≡ 1 + prefix_len p xs = ap (λ b. cond b (1 + prefix_len p xs) 0) h in omega (arith, e)
