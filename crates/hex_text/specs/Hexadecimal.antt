-- Hexadecimal text.
use Rattle.std.specs.Prelude.{ℕ, ◌+◌, ◌-◌, ◌*◌, ◌%◌, Bool, not, ◌||◌, ◌&&◌, ◌==◌, nat_le, nat_lt, if◌then◌else◌, List, [], ◌∷◌, length, position, is_some, Option, Some, None, Result, Ok, Err}
use Rattle.std.specs.List.{filter_map}
use Rattle.hex_text.specs.declared.hexadecimal.HexRule.{HexRule}
use Rattle.hex_text.specs.declared.hexadecimal.HexRule.TheVariants.{BadHex, OddHex, LongHex}

-- space, tab, LF or CR
abbrev pub is_white : ℕ → Bool
is_white b = (b == 32) || (b == 9) || (b == 10) || (b == 13)

-- the value of a digit 0 to 9, A to F or a to f
abbrev pub digit_value : ℕ → Option ℕ
digit_value b =
    if nat_le 48 b && nat_le b 57 then Some (b - 48) else (
    if nat_le 65 b && nat_le b 70 then Some (b - 55) else (
    if nat_le 97 b && nat_le b 102 then Some (b - 87) else None))

-- the place of the first byte that is neither a digit nor white space
abbrev pub first_foreign : List ℕ → Option ℕ
first_foreign text = position (λ b. not (is_white b || is_some (digit_value b))) text

-- the values of the digits in their order, whatever stands between them
abbrev pub digits : List ℕ → List ℕ
digits text = filter_map digit_value text

-- two digits a byte, the high one first
abbrev pub paired : List ℕ → List ℕ
paired (high ∷ low ∷ rest) = (16 * high + low) ∷ paired rest
paired others = []

-- the bytes that so many digits stand for, where a byte outside them stands at no place
abbrev pub bytes_where : ℕ → List ℕ → Option ℕ → Result (List ℕ) (HexRule × ℕ)
bytes_where limit text (Some place) = Err (BadHex, place)
bytes_where limit text None =
    if length (digits text) % 2 == 1 then Err (OddHex, length text) else (
    if nat_lt (2 * limit) (length (digits text)) then Err (LongHex, length text) else Ok (paired (digits text)))

-- the bytes of a hexadecimal text of at most so many bytes, or the first rule that the text breaks and the place
abbrev pub hex_bytes : ℕ → List ℕ → Result (List ℕ) (HexRule × ℕ)
hex_bytes limit text = bytes_where limit text (first_foreign text)
