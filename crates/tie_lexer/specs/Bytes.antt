-- Kinds of bytes.
use Rattle.std.specs.Prelude.{ℕ, Bool, ◌||◌, ◌&&◌, ◌==◌, nat_le, List, slice_index, if◌then◌else◌}

-- the byte at a place, or 0, which no text has, behind the end
abbrev pub byte_at : List ℕ → ℕ → ℕ
byte_at bytes at = slice_index bytes at

-- the byte at the front
abbrev pub first : List ℕ → ℕ
first bytes = byte_at bytes 0

-- both bounds are within
abbrev pub is_between : ℕ → ℕ → ℕ → Bool
is_between low high b = nat_le low b && nat_le b high

-- `A` to `Z`, `a` to `z`
abbrev pub is_letter : ℕ → Bool
is_letter b = is_between 65 90 b || is_between 97 122 b

-- `0` to `9`
abbrev pub is_digit : ℕ → Bool
is_digit b = is_between 48 57 b

-- `0` to `9`, `A` to `F`, `a` to `f`
abbrev pub is_hexadecimal_digit : ℕ → Bool
is_hexadecimal_digit b = is_digit b || is_between 65 70 b || is_between 97 102 b

-- `0` and `1`
abbrev pub is_binary_digit : ℕ → Bool
is_binary_digit b = is_between 48 49 b

-- a letter, a digit or `_`
abbrev pub is_word_byte : ℕ → Bool
is_word_byte b = is_letter b || is_digit b || b == 95

-- space, tab, LF and CR
abbrev pub is_blank : ℕ → Bool
is_blank b = b == 32 || b == 9 || b == 10 || b == 13

-- what may stand in a text: space to `~`, tab, LF and CR
abbrev pub is_text_byte : ℕ → Bool
is_text_byte b = is_between 32 126 b || is_blank b

-- `h`, `d` or `b`: base 16, 10 or 2
abbrev pub is_base : ℕ → Bool
is_base letter = letter == 104 || letter == 100 || letter == 98

-- a digit of the base of this letter
abbrev pub is_digit_of : ℕ → ℕ → Bool
is_digit_of letter b =
    if letter == 104 then is_hexadecimal_digit b else (if letter == 100 then is_digit b else is_binary_digit b)

-- a digit of the base of this letter, or `_`
abbrev pub is_value_byte : ℕ → ℕ → Bool
is_value_byte letter b = is_digit_of letter b || b == 95
