-- The tokens of a source, or the first byte at which none begins.
use Rattle.std.specs.Prelude.{ℕ, zero, suc, ◌+◌, ◌-◌, ◌^◌, min, Bool, true, false, not, ◌&&◌, ◌||◌, ◌==◌, nat_lt, nat_le, ℤ, pos, neg_ℤ, List, [], ◌∷◌, ◌++◌, length, take, drop, Result, Ok, Err, slice_index, codes, if◌then◌else◌}
use Rattle.std.specs.List.{prefix_len}
use Rattle.std.specs.Str.{bytes_eq}
use Rattle.std.specs.Str.Parse.{digits_value}
use Rattle.std.specs.Char.{is_ascii_alphabetic, is_ascii_digit, is_ascii_hexdigit}
use Rattle.tie_desc.specs.Names.{is_word_byte}
use Rattle.asm_lines.specs.declared.refusal.AsmRule.{AsmRule}
use Rattle.asm_lines.specs.declared.refusal.AsmRule.TheVariants as rule
use Rattle.asm_lines.specs.declared.token.TokenKind.{TokenKind}
use Rattle.asm_lines.specs.declared.token.TokenKind.TheVariants as kind
use Rattle.asm_lines.specs.declared.token.Token.{Token}
use Rattle.asm_lines.specs.declared.token.Mark.TheVariants as mark
use Rattle.asm_lines.specs.declared.token.Spot.{Spot}
use Rattle.asm_lines.specs.declared.piece.Piece.{Piece}
use Rattle.asm_lines.specs.declared.piece.Piece.TheVariants as piece

-- a rule, and the line and column at which it is broken, both from 1
abbrev pub Fault : Type 0
Fault = AsmRule × ℕ × ℕ

-- ---- what stands at the front of the bytes that are left

abbrev pub first : List ℕ → ℕ
first bytes = slice_index bytes 0

-- space, tab, or CR directly before LF
abbrev pub is_blank : List ℕ → Bool
is_blank bytes = first bytes == 32 || first bytes == 9 || (first bytes == 13 && slice_index bytes 1 == 10)

-- up to LF or the end
abbrev pub line_len : List ℕ → ℕ
line_len bytes = prefix_len (λ b. not (b == 10)) bytes

abbrev pub is_word_start : ℕ → Bool
is_word_start b = is_ascii_alphabetic b || b == 95

-- all letters, digits and `_` from the front on
abbrev pub word_len : List ℕ → ℕ
word_len bytes = prefix_len is_word_byte bytes

-- a word of at most 32 bytes
abbrev pub word_piece : List ℕ → Piece
word_piece bytes = if nat_le (word_len bytes) 32 then piece.Token (kind.Name (take (word_len bytes) bytes)) (word_len bytes) else piece.Bad

-- a number of 2 ^ 40 or more counts as 2 ^ 40: no operand may be as great
abbrev pub most : ℕ
most = 2 ^ 40

abbrev pub value : ℕ → List ℕ → ℕ
value base digits = min (digits_value base digits) most

abbrev pub digits_len : List ℕ → ℕ
digits_len bytes = prefix_len is_ascii_digit bytes

abbrev pub hexadecimal_len : List ℕ → ℕ
hexadecimal_len bytes = prefix_len is_ascii_hexdigit bytes

-- `0x` and hexadecimal digits, at least one
abbrev pub hexadecimal_piece : List ℕ → Piece
hexadecimal_piece digits =
    if hexadecimal_len digits == 0 then piece.Bad
    else piece.Token (kind.Number (pos (value 16 (take (hexadecimal_len digits) digits)))) (hexadecimal_len digits + 2)

-- `-` and decimal digits, at least one
abbrev pub negative_piece : List ℕ → Piece
negative_piece digits =
    if digits_len digits == 0 then piece.Bad
    else piece.Token (kind.Number (neg_ℤ (pos (value 10 (take (digits_len digits) digits))))) (digits_len digits + 1)

abbrev pub decimal_piece : List ℕ → Piece
decimal_piece bytes = piece.Token (kind.Number (pos (value 10 (take (digits_len bytes) bytes)))) (digits_len bytes)

abbrev pub number_piece : List ℕ → Piece
number_piece bytes = if first bytes == 48 && slice_index bytes 1 == 120 then hexadecimal_piece (drop 2 bytes) else decimal_piece bytes

-- `.byte`, `.word` and `.align`, in this case alone
abbrev pub directive_piece : List ℕ → Piece
directive_piece bytes =
    let name = take (word_len bytes) bytes in
    if bytes_eq name (codes "byte") then piece.Token kind.ByteDirective 5 else (
    if bytes_eq name (codes "word") then piece.Token kind.WordDirective 5 else (
    if bytes_eq name (codes "align") then piece.Token kind.AlignDirective 6 else piece.Bad))

abbrev pub mark_piece : ℕ → Piece
mark_piece b =
    if b == 44 then piece.Token (kind.Mark mark.Comma) 1 else (
    if b == 58 then piece.Token (kind.Mark mark.Colon) 1 else (
    if b == 59 then piece.Token (kind.Mark mark.Semicolon) 1 else (
    if b == 123 then piece.Token (kind.Mark mark.OpenBrace) 1 else (
    if b == 125 then piece.Token (kind.Mark mark.CloseBrace) 1 else piece.Bad))))

-- a token, or nothing
abbrev pub token_piece : List ℕ → Piece
token_piece bytes =
    if is_word_start (first bytes) then word_piece bytes else (
    if is_ascii_digit (first bytes) then number_piece bytes else (
    if first bytes == 45 then negative_piece (drop 1 bytes) else (
    if first bytes == 46 then directive_piece (drop 1 bytes) else mark_piece (first bytes))))

-- LF, white space, a comment, a token, or nothing of these
abbrev pub front : List ℕ → Piece
front bytes =
    if first bytes == 10 then piece.LineFeed else (
    if is_blank bytes then piece.Gap 1 else (
    if first bytes == 35 then piece.Gap (line_len bytes) else token_piece bytes))

-- ---- the tokens, line by line

-- n bytes further on
abbrev pub moved : ℕ → Spot → Spot
moved n at = record at { column = at.column + n }

-- behind a token of n bytes
abbrev pub past : ℕ → Spot → Spot
past n at = record at { column = at.column + n; behind = at.column + n }

abbrev pub next_line : Spot → Spot
next_line at = record { line = at.line + 1; column = 1; behind = 0 }

abbrev pub token_at : TokenKind → Spot → Token
token_at k at = record { kind = k; line = at.line; column = at.column }

-- the end of a line that has tokens stands one column behind the last one
abbrev pub line_end : Spot → List Token
line_end at = if at.behind == 0 then [] else record { kind = kind.LineEnd; line = at.line; column = at.behind } ∷ []

abbrev pub with_front : List Token → Result (List Token) Fault → Result (List Token) Fault
with_front ts (Ok more) = Ok (ts ++ more)
with_front ts (Err fault) = Err fault

-- goes on behind a piece: with how many of the bytes behind its first one are skipped, and from which spot
abbrev pub scan_piece : Piece → Spot → (ℕ → Spot → Result (List Token) Fault) → Result (List Token) Fault
scan_piece (piece.Gap n) at more = more (n - 1) (moved n at)
scan_piece (piece.Token k n) at more = with_front (token_at k at ∷ []) (more (n - 1) (past n at))
scan_piece piece.LineFeed at more = with_front (line_end at) (more 0 (next_line at))
scan_piece piece.Bad at more = Err (rule.BadToken, at.line, at.column)

-- the tokens of the bytes behind those that are skipped, the first one of them being at a spot
abbrev pub scan : List ℕ → ℕ → Spot → Result (List Token) Fault
scan [] skipped at = Ok (line_end at)
scan (b ∷ bytes) (suc skipped) at = scan bytes skipped at
scan (b ∷ bytes) zero at = scan_piece (front (b ∷ bytes)) at (λ skipped spot. scan bytes skipped spot)

abbrev pub first_spot : Spot
first_spot = record { line = 1; column = 1; behind = 0 }

-- the tokens of a source, each line that has some ended by LineEnd
unfoldable pub tokens : List ℕ → Result (List Token) Fault
tokens text = scan text 0 first_spot
