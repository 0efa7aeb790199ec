-- Hexadecimal digits of a number.
use Rattle.std.proofs.Common.{◌≡◌, ℕ, ◌-◌, ◌*◌, ◌/◌, ◌%◌, ◌^◌, ◌<◌, zero, suc, List, [], ◌∷◌, ◌++◌, refl, sym, ap, ◌∙◌, arith}
use Rattle.std.proofs.lemmas.List.{append_assoc}
use Rattle.core_text.specs.Digits.{hex_digit, hex_digits}

hex_digits-first : (k n : ℕ) → 0 < k → hex_digits k n ≡ hex_digit (n / 2 ^ (4 * (k - 1)) % 16) ∷ hex_digits (k - 1) n
unfolding hex_digits
hex_digits-first zero n h = absurd (omega arith)
hex_digits-first (suc k) n h = let e : suc k - 1 ≡ k = omega arith in rw e refl

-- one digit more
pub hex_digits-more : (text text' : List ℕ) (k n : ℕ) → 0 < k → text' ≡ text ++ hex_digit (n / 2 ^ (4 * (k - 1)) % 16) ∷ [] → text' ++ hex_digits (k - 1) n ≡ text ++ hex_digits k n
hex_digits-more text text' k n h e =
    let d : ℕ = hex_digit (n / 2 ^ (4 * (k - 1)) % 16) in
    ap (λ z. z ++ hex_digits (k - 1) n) e ∙ append_assoc text (d ∷ []) (hex_digits (k - 1) n) ∙ ap (λ z. text ++ z) (sym (hex_digits-first k n h))
