-- The constants that branches compare with: a word holds the place of one in its list.
use Rattle.std.specs.Prelude.{ℕ, ◌+◌, ◌<◌, ℤ, pos, negsuc, if◌then◌else◌, List, [], ◌∷◌}
use Rattle.std.specs.List.{slice_index_or}
use Rattle.std.specs.Ordering.{int_eq}

-- of BEQI, BNEI, BLTI, BGEI: the first is -1
abbrev pub constants : List ℤ
constants = negsuc 0 ∷ pos 1 ∷ pos 2 ∷ pos 3 ∷ pos 4 ∷ pos 5 ∷ pos 6 ∷ pos 7 ∷ pos 8 ∷ pos 10 ∷ pos 12 ∷ pos 16 ∷ pos 32 ∷ pos 64 ∷ pos 128 ∷ pos 256 ∷ []

-- of BLTUI, BGEUI
abbrev pub unsigned_constants : List ℤ
unsigned_constants = pos 32768 ∷ pos 65536 ∷ pos 2 ∷ pos 3 ∷ pos 4 ∷ pos 5 ∷ pos 6 ∷ pos 7 ∷ pos 8 ∷ pos 10 ∷ pos 12 ∷ pos 16 ∷ pos 32 ∷ pos 64 ∷ pos 128 ∷ pos 256 ∷ []

-- the first place of a number in a list, the list's length where it isn't there
abbrev pub place_of : ℤ → List ℤ → ℕ
place_of value [] = 0
place_of value (first ∷ rest) = if int_eq value first then 0 else place_of value rest + 1

-- the code of a constant, 16 where there is none; and the constant of a code
unfoldable pub constant_code : ℤ → ℕ
constant_code value = place_of value constants

unfoldable pub constant_at : ℕ → ℤ
constant_at code = slice_index_or constants code (pos 0)

-- the same of the unsigned ones
unfoldable pub unsigned_code : ℤ → ℕ
unsigned_code value = place_of value unsigned_constants

unfoldable pub unsigned_at : ℕ → ℤ
unsigned_at code = slice_index_or unsigned_constants code (pos 0)

-- a number that stands in a list
abbrev pub IsConstant : ℤ → Type 0
IsConstant value = constant_code value < 16

abbrev pub IsUnsignedConstant : ℤ → Type 0
IsUnsignedConstant value = unsigned_code value < 16
