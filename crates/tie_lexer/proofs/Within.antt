-- No piece is empty or longer than what is left.
use Rattle.std.proofs.Common.{◌≡◌, ℕ, zero, suc, ◌+◌, ◌-◌, ◌≤◌, ◌<◌, inl, inr, true, List, [], ◌∷◌, length, drop, ap, arith, not, ◌==◌, ◌||◌, length-drop}
use Rattle.std.proofs.lemmas.List.Sums.{prefix_len-le-length}
use Rattle.tie_lexer.specs.Bytes.{first, is_digit, is_hexadecimal_digit, is_word_byte, is_base, is_digit_of, is_value_byte}
use Rattle.tie_lexer.specs.declared.TokenKind.{TokenKind}
use Rattle.tie_lexer.specs.declared.TokenKind.TheVariants as kind
use Rattle.tie_lexer.specs.declared.LexRule.{LexRule}
use Rattle.tie_lexer.specs.declared.LexRule.TheVariants as rule
use Rattle.tie_lexer.specs.Pieces.{IsComment, IsGap, IsMark, Spells, IsBad, digits_len, base, value}
use Rattle.tie_lexer.proofs.Told.{both, stands, at_some, zero_no_digit, prefix_some}

pub comment_within : (rest : List ℕ) (n : ℕ) → 0 < length rest → IsComment rest n → (0 < n) × (n ≤ length rest)
comment_within rest n some (inl h) =
    let one = stands rest 0 47 47 h.0 in
    let low = prefix_some (λ b. not (b == 10)) rest some (ap (λ b. not (b == 10)) one.0) in
    let high = prefix_len-le-length (λ b. not (b == 10)) rest in
    (omega (arith, h.1), omega (arith, h.1))
comment_within rest n some (inr h) =
    let star = stands rest (n - 2) 42 47 h.1.ends in
    let room = h.1.room in
    let last = at_some rest (n - 2 + 1) 46 star.1 in
    (omega arith, omega arith)

pub gap_within : (rest : List ℕ) (n : ℕ) → 0 < length rest → IsGap rest n → (0 < n) × (n ≤ length rest)
gap_within rest n some (inl h) = (omega (arith, h.1), omega (arith, h.1))
gap_within rest n some (inr h) = comment_within rest n some h.0

mark_some : (rest : List ℕ) (n : ℕ) → IsMark rest n → 0 < n
mark_some rest zero h = let e = h.mark in cc
mark_some rest (suc n) h = omega arith

-- something stands behind the letter of a base
pub value_some : (letter : ℕ) (bytes : List ℕ) → is_digit_of letter (first bytes) ≡ true → 0 < length bytes
value_some letter [] h = let z = zero_no_digit letter in cc
value_some letter (b ∷ bytes) h = omega arith

pub spelled_within : (rest : List ℕ) (k : TokenKind) (n : ℕ) → 0 < length rest → Spells rest k n → (0 < n) × (n ≤ length rest)
spelled_within rest kind.Word n some h =
    let b = first rest in
    let low = prefix_some is_word_byte rest some (ap (λ x. x || is_digit b || b == 95) h.0) in
    let high = prefix_len-le-length is_word_byte rest in
    (omega (arith, h.1), omega (arith, h.1))
spelled_within rest kind.Number n some (inl h) =
    let high = prefix_len-le-length is_hexadecimal_digit (drop 2 rest) in
    let size = length-drop 2 rest in
    let low = h.1 in
    (omega (arith, h.2), omega (arith, h.2))
spelled_within rest kind.Number n some (inr h) =
    let low = prefix_some is_digit rest some h.0 in
    let high = prefix_len-le-length is_digit rest in
    (omega (arith, h.3), omega (arith, h.3))
spelled_within rest kind.Sized n some h =
    let parts = both (is_base (base rest)) (is_digit_of (base rest) (first (value rest))) h.2 in
    let behind = value_some (base rest) (value rest) parts.1 in
    let high = prefix_len-le-length (is_value_byte (base rest)) (value rest) in
    let size = length-drop (digits_len rest + 2) rest in
    (omega (arith, h.3), omega (arith, h.3))
spelled_within rest kind.Mark n some h = (mark_some rest n h, h.within)

pub bad_within : (rest : List ℕ) (r : LexRule) (at : ℕ) → 0 < length rest → IsBad rest r at → at < length rest
bad_within rest rule.BadByte at some (inl h) = omega (arith, h.0)
bad_within rest rule.BadByte at some (inr h) = let w = comment_within rest h.0 some h.1 in omega (arith, h.2, w.1)
bad_within rest rule.OpenComment at some h = omega (arith, h.0)
bad_within rest rule.BadLiteral at some h = omega (arith, h.0)
