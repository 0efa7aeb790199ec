-- How words and numbers stand in a line.
use Rattle.std.specs.Prelude.{ℕ, ◌/◌, ◌%◌, ◌^◌, false, List, [], ◌∷◌, ◌++◌, map, codes}
use Rattle.std.specs.Fmt.{digit_glyph, decimal}

-- some words, with a text before the first one and a text between two of them; nothing for no words
abbrev pub joined : List ℕ → List ℕ → List (List ℕ) → List ℕ
joined before between [] = []
joined before between (word ∷ words) = before ++ word ++ joined between between words

-- operands behind a mnemonic: a space, then the operands with commas
abbrev pub operands : List (List ℕ) → List ℕ
operands words = joined (codes " ") (codes ", ") words

-- a register: the short name of its file, and its number
abbrev pub register : List ℕ → ℕ → List ℕ
register short number = short ++ decimal number

-- an address: `0x` and its eight digits to the base 16
unfoldable pub address : ℕ → List ℕ
address n = codes "0x" ++ map (λ place. digit_glyph false (n / 16 ^ place % 16)) (7 ∷ 6 ∷ 5 ∷ 4 ∷ 3 ∷ 2 ∷ 1 ∷ 0 ∷ [])
