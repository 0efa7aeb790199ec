-- Bytes of words.
use Rattle.std.proofs.Common.{◌≡◌, ℕ, zero, suc, ◌+◌, ◌<◌, ◌≤◌, Bool, true, false, cond, List, [], ◌∷◌, length, take, get_or, arith, refl, ap, ◌∙◌}
use Rattle.std.specs.Prelude.{◌&&◌}
use Rattle.std.specs.List.{list_all, prefix_len}
use Rattle.std.specs.Str.{IsAscii}
use Rattle.std.proofs.lemmas.Bool.Decides.{nat_tests}
use Rattle.tie_desc.specs.Names.{is_word_byte}
use Rattle.asm_lines.specs.Tokens.{is_word_start}

both : (a b : Bool) → (a && b) ≡ true → (a ≡ true) × (b ≡ true)
both true b h = (refl, h)
both false b h = absurd cc

below : (b : ℕ) → is_word_byte b ≡ true → b < 128
below b h = grind (arith, nat_tests)

-- word bytes are ASCII; behind the end there is none
pub word_is_ascii : (xs : List ℕ) → list_all is_word_byte xs ≡ true → IsAscii xs
word_is_ascii [] e i = omega arith
word_is_ascii (x ∷ xs) e zero = below x (both (is_word_byte x) (list_all is_word_byte xs) e).0
word_is_ascii (x ∷ xs) e (suc i) = word_is_ascii xs (both (is_word_byte x) (list_all is_word_byte xs) e).1 i

-- what begins a word stands in one
pub start_is_word : (b : ℕ) → is_word_start b ≡ true → is_word_byte b ≡ true
start_is_word b h = grind (arith, nat_tests)

-- those that pass from the front on all pass
pub front_passes : (p : ℕ → Bool) (xs : List ℕ) → list_all p (take (prefix_len p xs) xs) ≡ true
front_passes p [] = refl
front_passes p (x ∷ xs) = by (p x) refl (front_passes p xs)
  where
    by : (b : Bool) → p x ≡ b → list_all p (take (prefix_len p xs) xs) ≡ true → list_all p (take (cond b (1 + prefix_len p xs) 0) (x ∷ xs)) ≡ true
    by true e again =
        let one : 1 + prefix_len p xs ≡ suc (prefix_len p xs) = omega arith in
        ap (λ n. list_all p (take n (x ∷ xs))) one ∙ ap (λ b. b && list_all p (take (prefix_len p xs) xs)) e ∙ again
    by false e again = refl

-- the first one passes, so there is one
pub front_some : (p : ℕ → Bool) (xs : List ℕ) → 0 < length xs → p (get_or xs 0 0) ≡ true → 0 < prefix_len p xs
front_some p [] h e = absurd (omega arith)
front_some p (x ∷ xs) h e = by (p x) e
  where
    by : (b : Bool) → b ≡ true → 0 < cond b (1 + prefix_len p xs) 0
    by true k = omega arith
    by false k = absurd cc

-- a first byte that isn't 0 is there
pub has_first : (xs : List ℕ) → 0 < get_or xs 0 0 → 0 < length xs
has_first [] h = absurd (omega arith)
has_first (x ∷ xs) h = omega arith
