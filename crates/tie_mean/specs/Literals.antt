-- What the bytes of numbers and sized numbers spell, on whole numbers.
use Rattle.std.specs.Prelude.{ℕ, ◌+◌, ◌-◌, ◌*◌, ◌^◌, Bool, ◌&&◌, ◌==◌, not, nat_lt, nat_le, if◌then◌else◌, min, List, [], ◌∷◌, take, drop, slice_index}
use Rattle.std.specs.List.{prefix_len}
use Rattle.tie_grammar.specs.declared.tree.Literal.{Literal}
use Rattle.tie_grammar.specs.declared.tree.Literal.TheVariants as l

-- the value of a digit: `0` to `9`, `A` to `F`, `a` to `f`
abbrev pub digit_value : ℕ → ℕ
digit_value b = if nat_le b 57 then b - 48 else (if nat_le b 70 then b - 55 else b - 87)

-- one more digit of a base behind those that spell n; `_` is skipped
abbrev pub next_digit : ℕ → ℕ → ℕ → ℕ
next_digit base n b = if b == 95 then n else n * base + digit_value b

-- what digits spell behind those that spell n
abbrev pub spelled_behind : ℕ → ℕ → List ℕ → ℕ
spelled_behind base n [] = n
spelled_behind base n (b ∷ bs) = spelled_behind base (next_digit base n b) bs

-- the number that digits of a base spell
abbrev pub spelled : ℕ → List ℕ → ℕ
spelled base bytes = spelled_behind base 0 bytes

-- a number: decimal digits, or `0x` and hexadecimal digits
abbrev pub number : List ℕ → ℕ
number bytes = if slice_index bytes 1 == 120 then spelled 16 (drop 2 bytes) else spelled 10 bytes

-- the place of the `'` of a sized number
abbrev pub quote_at : List ℕ → ℕ
quote_at bytes = prefix_len (λ b. not (b == 39)) bytes

-- the width of a sized number: the decimal digits before the `'`
abbrev pub sized_width : List ℕ → ℕ
sized_width bytes = spelled 10 (take (quote_at bytes) bytes)

-- the base that a letter names: `h` 16, `d` 10, `b` 2
abbrev pub base_of : ℕ → ℕ
base_of letter = if letter == 104 then 16 else (if letter == 100 then 10 else 2)

-- the value of a sized number: the digits behind the letter
abbrev pub sized_value : List ℕ → ℕ
sized_value bytes = spelled (base_of (slice_index bytes (quote_at bytes + 1))) (drop (quote_at bytes + 2) bytes)

abbrev pub literal_value : Literal → ℕ
literal_value (l.Number leaf) = number leaf.bytes
literal_value (l.Sized leaf) = sized_value leaf.bytes

-- a number has 32 bits
abbrev pub literal_width : Literal → ℕ
literal_width (l.Number leaf) = 32
literal_width (l.Sized leaf) = sized_width leaf.bytes

-- the greatest number that is told apart; greater ones are taken for it
abbrev pub greatest : ℕ
greatest = 2 ^ 128 - 1

abbrev pub capped : ℕ → ℕ
capped n = min n greatest

-- a literal's value fits a width
abbrev pub literal_fits : ℕ → Literal → Bool
literal_fits width x = nat_lt (literal_value x) (2 ^ width)

-- a width of 1 to 128 bits
abbrev pub is_width : ℕ → Bool
is_width width = nat_lt 0 width && nat_le width 128

-- a literal of an expression fits its own width, of 1 to 128 bits
abbrev pub literal_sound : Literal → Bool
literal_sound x = is_width (literal_width x) && literal_fits (literal_width x) x
