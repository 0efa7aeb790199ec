-- The lines of a processor in a report.
use Rattle.std.specs.Prelude.{ℕ, ◌+◌, ◌==◌, if◌then◌else◌, List, [], ◌∷◌, ◌++◌, codes}
use Rattle.std.specs.Fmt.{decimal}
use Rattle.tie_expr.specs.Word.{Word}
use Rattle.tie_desc.specs.declared.declarations.StateDecl.{StateDecl}
use Rattle.tie_desc.specs.declared.declarations.FileDecl.{FileDecl}
use Rattle.tie_desc.specs.Description.{Description}
use Rattle.xt_state.specs.State.{State, File}
use Rattle.core_text.specs.Digits.{hex_digits, digit_count}

-- the line of a register of a file with this short name, and so many digits
abbrev pub register_line : List ℕ → ℕ → ℕ → ℕ → List ℕ
register_line short count number value = codes "  " ++ short ++ decimal number ++ codes " " ++ hex_digits count value ++ codes "\n"

-- the line of each register that isn't 0, numbered from here on
abbrev pub register_lines : List ℕ → ℕ → ℕ → List ℕ → List ℕ
register_lines short count number [] = []
register_lines short count number (value ∷ values) = (if value == 0 then [] else register_line short count number value) ++ register_lines short count (number + 1) values

-- the line of each state
abbrev pub state_lines : List StateDecl → List Word → List ℕ
state_lines (state ∷ states) (word ∷ words) =
    (codes "  " ++ state.name ++ codes " " ++ hex_digits (digit_count state.width) word.value ++ codes "\n") ++ state_lines states words
state_lines _ _ = []

-- the lines of each file's registers
abbrev pub file_lines : List FileDecl → List File → List ℕ
file_lines (decl ∷ decls) (file ∷ files) = register_lines decl.short (digit_count decl.width) 0 file.values ++ file_lines decls files
file_lines _ _ = []

-- the lines of one processor: its name, its count of retirements, how it stands in words, its state
abbrev pub core_lines : List ℕ → Description → List ℕ → ℕ → State → List ℕ
core_lines name d words retired s =
    codes "core " ++ name ++ codes " retired " ++ decimal retired ++ codes " " ++ words ++ codes " pc " ++ hex_digits 8 s.pc
    ++ codes "\n  sar " ++ decimal s.sar ++ codes "\n" ++ register_lines (codes "a") 8 0 s.registers ++ state_lines d.states s.states ++ file_lines d.files s.files
