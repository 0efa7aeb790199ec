-- What stands at the front of the rest of a text: white space, a comment, a token, or what begins none of these.
use Rattle.std.specs.Prelude.{◌≡◌, ℕ, ◌+◌, ◌-◌, ◌≤◌, ◌<◌, Bool, true, false, List, [], ◌∷◌, length, take, drop, ◌⊎◌, codes, not, ◌==◌, ◌&&◌, if◌then◌else◌}
use Rattle.std.specs.List.{prefix_len, list_any}
use Rattle.std.specs.Str.{bytes_eq}
use Rattle.tie_lexer.specs.Bytes.{byte_at, first, is_letter, is_digit, is_hexadecimal_digit, is_word_byte, is_blank, is_text_byte, is_base, is_digit_of, is_value_byte}
use Rattle.tie_lexer.specs.declared.TokenKind.{TokenKind}
use Rattle.tie_lexer.specs.declared.TokenKind.TheVariants as kind
use Rattle.tie_lexer.specs.declared.LexRule.{LexRule}
use Rattle.tie_lexer.specs.declared.LexRule.TheVariants as rule

-- these two bytes stand there
abbrev pub stand_at : List ℕ → ℕ → ℕ → ℕ → Bool
stand_at bytes at a b = byte_at bytes at == a && byte_at bytes (at + 1) == b

-- Comments

-- `//`
abbrev pub opens_line : List ℕ → Bool
opens_line rest = stand_at rest 0 47 47

-- `/*`
abbrev pub opens_block : List ℕ → Bool
opens_block rest = stand_at rest 0 47 42

-- `*/`, at a place
abbrev pub closes_at : List ℕ → ℕ → Bool
closes_at rest at = stand_at rest at 42 47

-- all bytes up to LF or the end of the text
abbrev pub line_len : List ℕ → ℕ
line_len rest = prefix_len (λ b. not (b == 10)) rest

-- the first `*/` behind `/*` ends here
pub record IsClosed (rest : List ℕ) (n : ℕ) : Type 0 where
  pub room : 4 ≤ n
  pub ends : closes_at rest (n - 2) ≡ true
  pub none_before : (at : ℕ) → 2 ≤ at → at + 2 < n → closes_at rest at ≡ false

-- no `*/` stands behind `/*`
abbrev pub IsOpen : List ℕ → Type 0
IsOpen rest = (at : ℕ) → 2 ≤ at → closes_at rest at ≡ false

-- a comment has n bytes
abbrev pub IsComment : List ℕ → ℕ → Type 0
IsComment rest n =
    ((opens_line rest ≡ true) × (n ≡ line_len rest)) ⊎ ((opens_block rest ≡ true) × IsClosed rest n)

-- how many of n bytes, from the front on, may stand in a text
abbrev pub clean_len : List ℕ → ℕ → ℕ
clean_len rest n = prefix_len is_text_byte (take n rest)

-- one blank, or a comment all of whose bytes may stand in a text
abbrev pub IsGap : List ℕ → ℕ → Type 0
IsGap rest n = ((is_blank (first rest) ≡ true) × (n ≡ 1)) ⊎ (IsComment rest n × (clean_len rest n ≡ n))

-- Words, numbers and sized literals

-- all letters, digits and `_` from the front on
abbrev pub word_len : List ℕ → ℕ
word_len rest = prefix_len is_word_byte rest

-- all decimal digits from the front on
abbrev pub digits_len : List ℕ → ℕ
digits_len rest = prefix_len is_digit rest

-- `0x`
abbrev pub opens_hexadecimal : List ℕ → Bool
opens_hexadecimal rest = stand_at rest 0 48 120

-- all hexadecimal digits behind `0x`
abbrev pub hexadecimal_len : List ℕ → ℕ
hexadecimal_len rest = prefix_len is_hexadecimal_digit (drop 2 rest)

-- `'` stands directly behind the decimal digits
abbrev pub has_quote : List ℕ → Bool
has_quote rest = byte_at rest (digits_len rest) == 39

-- the letter of the base, behind `'`
abbrev pub base : List ℕ → ℕ
base rest = byte_at rest (digits_len rest + 1)

-- what stands behind the letter of the base
abbrev pub value : List ℕ → List ℕ
value rest = drop (digits_len rest + 2) rest

-- `'` has a base and then a digit of it behind
abbrev pub has_value : List ℕ → Bool
has_value rest = is_base (base rest) && is_digit_of (base rest) (first (value rest))

-- width, `'`, base, and all digits of the base and `_`
abbrev pub sized_len : List ℕ → ℕ
sized_len rest = digits_len rest + 2 + prefix_len (is_value_byte (base rest)) (value rest)

-- Marks

-- a mark of one byte, or of two
abbrev pub is_mark : List ℕ → Bool
is_mark [] = false
is_mark (a ∷ []) = list_any (λ b. b == a) (codes "{}()[],;:?=<>+-*&|^~!")
is_mark (a ∷ b ∷ []) =
    list_any (λ mark. bytes_eq mark (a ∷ b ∷ []))
    (codes "==" ∷ codes "!=" ∷ codes "<=" ∷ codes ">=" ∷ codes "<<" ∷ codes ">>" ∷ codes "&&" ∷ codes "||" ∷ [])
is_mark (a ∷ b ∷ c ∷ more) = false

-- the longest mark at the front
pub record IsMark (rest : List ℕ) (n : ℕ) : Type 0 where
  pub within : n ≤ length rest
  pub mark : is_mark (take n rest) ≡ true
  pub longest : (m : ℕ) → n < m → m ≤ length rest → is_mark (take m rest) ≡ false

-- no mark stands at the front
abbrev pub HasNoMark : List ℕ → Type 0
HasNoMark rest = (m : ℕ) → m ≤ length rest → is_mark (take m rest) ≡ false

-- Tokens

-- the token of this kind at the front, taken as long as it goes on, has n bytes
abbrev pub Spells : List ℕ → TokenKind → ℕ → Type 0
Spells rest kind.Word n = (is_letter (first rest) ≡ true) × (n ≡ word_len rest)
Spells rest kind.Number n =
    ((opens_hexadecimal rest ≡ true) × (0 < hexadecimal_len rest) × (n ≡ 2 + hexadecimal_len rest))
    ⊎ ((is_digit (first rest) ≡ true) × (opens_hexadecimal rest ≡ false) × (has_quote rest ≡ false) × (n ≡ digits_len rest))
Spells rest kind.Sized n =
    (is_digit (first rest) ≡ true) × (has_quote rest ≡ true) × (has_value rest ≡ true) × (n ≡ sized_len rest)
Spells rest kind.Mark n = IsMark rest n

-- how many bytes a token may have: 39 decimal digits, or `0x` and 32 digits; 200 bytes in base 2, or 64
abbrev pub limit : List ℕ → TokenKind → ℕ
limit rest kind.Word = 32
limit rest kind.Number = if opens_hexadecimal rest then 34 else 39
limit rest kind.Sized = if base rest == 98 then 200 else 64
limit rest kind.Mark = 2

-- the token of this kind at the front has n bytes, and that is not too long
abbrev pub IsToken : List ℕ → TokenKind → ℕ → Type 0
IsToken rest kind n = Spells rest kind n × (n ≤ limit rest kind)

-- Faults

-- no blank, comment or token begins here
abbrev pub BeginsNone : List ℕ → Type 0
BeginsNone rest =
    (is_blank (first rest) ≡ false) × (is_letter (first rest) ≡ false) × (is_digit (first rest) ≡ false)
    × (opens_line rest ≡ false) × (opens_block rest ≡ false) × HasNoMark rest

-- a comment ends, and the first of its bytes that may not stand in a text is here
abbrev pub IsSpoiled : List ℕ → ℕ → Type 0
IsSpoiled rest at = (n : ℕ) × IsComment rest n × (at < n) × (at ≡ clean_len rest n)

-- longer than a token of its kind may be
abbrev pub IsTooLong : List ℕ → Type 0
IsTooLong rest = (kind : TokenKind) × (n : ℕ) × Spells rest kind n × (limit rest kind < n)

-- `0x` without a digit, or decimal digits and `'` without a base and a digit of it
abbrev pub IsBroken : List ℕ → Type 0
IsBroken rest =
    ((opens_hexadecimal rest ≡ true) × (hexadecimal_len rest ≡ 0))
    ⊎ ((is_digit (first rest) ≡ true) × (has_quote rest ≡ true) × (has_value rest ≡ false))

-- what is wrong at the front, and at which of its bytes
abbrev pub IsBad : List ℕ → LexRule → ℕ → Type 0
IsBad rest rule.BadByte at = ((at ≡ 0) × BeginsNone rest) ⊎ IsSpoiled rest at
IsBad rest rule.OpenComment at = (at ≡ 0) × (opens_block rest ≡ true) × IsOpen rest
IsBad rest rule.BadLiteral at = (at ≡ 0) × (IsTooLong rest ⊎ IsBroken rest)
