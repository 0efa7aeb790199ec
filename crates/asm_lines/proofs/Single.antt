-- The token at a place is the first of those from there on.
use Rattle.std.proofs.Common.{◌≡◌, ℕ, zero, suc, ◌+◌, ◌<◌, ◌≤◌, List, [], ◌∷◌, length, drop, Bool, true, false, Option, Some, None, Ok, Err, refl, ap, sym, ◌∙◌, arith}
use Rattle.std.specs.Prelude.{slice_get, nat_lt}
use Rattle.asm_lines.specs.declared.token.Token.{Token}
use Rattle.asm_lines.specs.Tokens.{Fault}
use Rattle.asm_lines.specs.Reading.{Read, one, taken, place, first_is}
use Rattle.asm_lines.specs.Lines.{some_left}

abbrev pub got : {A : Type 0} → (Token → Option A) → Option Token → List Token → Read A
got pick None after = Err (place [])
got pick (Some t) after = taken (pick t) t after

pub one_at : {A : Type 0} (pick : Token → Option A) (ts : List Token) (at : ℕ) → one pick (drop at ts) ≡ got pick (slice_get ts at) (drop (at + 1) ts)
one_at pick [] zero = refl
one_at pick [] (suc at) = refl
one_at pick (t ∷ ts) zero = refl
one_at pick (t ∷ ts) (suc at) = one_at pick ts at ∙ ap (λ n. got pick (slice_get ts at) (drop n (t ∷ ts))) one_more
  where
    one_more : suc (at + 1) ≡ suc at + 1
    one_more = omega arith

abbrev pub tested : (Token → Bool) → Option Token → Bool
tested test None = false
tested test (Some t) = test t

pub first_at : (test : Token → Bool) (ts : List Token) (at : ℕ) → first_is test (drop at ts) ≡ tested test (slice_get ts at)
first_at test [] zero = refl
first_at test [] (suc at) = refl
first_at test (t ∷ ts) zero = refl
first_at test (t ∷ ts) (suc at) = first_at test ts at

abbrev pub placed : Option Token → Fault
placed None = place []
placed (Some t) = place (t ∷ [])

pub place_at : (ts : List Token) (at : ℕ) → place (drop at ts) ≡ placed (slice_get ts at)
place_at [] zero = refl
place_at [] (suc at) = refl
place_at (t ∷ ts) zero = refl
place_at (t ∷ ts) (suc at) = place_at ts at

pub some_left_at : (ts : List Token) (at : ℕ) → at < length ts → some_left (drop at ts) ≡ true
some_left_at [] at h = absurd (omega arith)
some_left_at (t ∷ ts) zero h = refl
some_left_at (t ∷ ts) (suc at) h = some_left_at ts at (omega arith)

pub none_left : (ts : List Token) (at : ℕ) → length ts ≤ at → drop at ts ≡ []
none_left [] zero h = refl
none_left [] (suc at) h = refl
none_left (t ∷ ts) zero h = absurd (omega arith)
none_left (t ∷ ts) (suc at) h = none_left ts at (omega arith)
