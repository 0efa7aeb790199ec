-- What the commands without a processor print.
use Rattle.std.specs.Prelude.{ℕ, ◌+◌, ◌%◌, ◌||◌, ◌==◌, if◌then◌else◌, List, [], ◌∷◌, ◌++◌, length, codes}
use Rattle.std.specs.Fmt.{decimal}
use Rattle.tie_desc.specs.Description.{Description}
use Rattle.tie_desc.specs.Spelling.{op_word}
use Rattle.tie_desc.specs.declared.declarations.OpDecl.{OpDecl}
use Rattle.tie_desc.specs.declared.formats.FormatDecl.{FormatDecl}
use Rattle.tie_desc.specs.declared.formats.Code.TheVariants.{Op}
use Rattle.core_text.specs.Digits.{hex_digits}

-- the 24 bits of the operation of a number, with 0 in its fields
abbrev pub operation_code : ℕ → ℕ
operation_code number = op_word (Op number) (0 ∷ 0 ∷ 0 ∷ [])

-- the line of each operation, numbered from here on
abbrev pub operation_lines : ℕ → List OpDecl → List ℕ
operation_lines number [] = []
operation_lines number (op ∷ ops) =
    (codes "operation " ++ op.name ++ codes " " ++ hex_digits 6 (operation_code number) ++ codes "\n") ++ operation_lines (number + 1) ops

-- the line of each format: its name, its width and its number among the formats of its width
abbrev pub format_lines : List FormatDecl → List ℕ
format_lines [] = []
format_lines (f ∷ fs) = (codes "format " ++ f.name ++ codes " " ++ decimal f.width ++ codes " " ++ decimal f.number ++ codes "\n") ++ format_lines fs

-- what an accepted text declares
abbrev pub check_text : Description → List ℕ
check_text d = codes "accepted\n" ++ operation_lines 0 d.ops ++ format_lines d.formats

-- what stands behind a byte: a line ends with every 16th byte and the last one
abbrev pub behind_byte : ℕ → List ℕ → List ℕ
behind_byte number rest = if length rest == 0 || number % 16 == 15 then codes "\n" else codes " "

-- bytes as two digits each, numbered from here on
abbrev pub byte_lines : ℕ → List ℕ → List ℕ
byte_lines number [] = []
byte_lines number (byte ∷ bytes) = hex_digits 2 byte ++ behind_byte number bytes ++ byte_lines (number + 1) bytes

-- an image, 16 bytes a line
abbrev pub image_text : List ℕ → List ℕ
image_text bytes = byte_lines 0 bytes
