-- The lines of a part of a memory.
use Rattle.std.specs.Prelude.{ℕ, ◌+◌, ◌%◌, ◌==◌, if◌then◌else◌, List, [], ◌∷◌, ◌++◌, codes}
use Rattle.core_text.specs.Digits.{hex_digits}

-- a line begins with the address of its first byte
abbrev pub before_byte : ℕ → ℕ → List ℕ
before_byte number address = if number % 16 == 0 then codes "  mem " ++ hex_digits 8 address else []

-- a line ends behind its 16th byte, and behind the last one
abbrev pub behind_byte : ℕ → List ℕ → List ℕ
behind_byte number [] = codes "\n"
behind_byte number (byte ∷ bytes) = if number % 16 == 15 then codes "\n" else []

-- bytes numbered from here on, each as two digits behind a space
abbrev pub bytes_lines : ℕ → ℕ → List ℕ → List ℕ
bytes_lines number address [] = []
bytes_lines number address (byte ∷ bytes) =
    before_byte number address ++ codes " " ++ hex_digits 2 byte ++ behind_byte number bytes ++ bytes_lines (number + 1) (address + 1) bytes

-- the bytes that stand from an address on, 16 a line
abbrev pub memory_lines : ℕ → List ℕ → List ℕ
memory_lines address bytes = bytes_lines 0 address bytes
