-- What the reader answers.
use Rattle.std.specs.Prelude.{◌≡◌, ℕ, List, Result, Err}
use Rattle.hex_text.specs.declared.hexadecimal.HexRule.{HexRule}
use Rattle.hex_text.specs.declared.hexadecimal.HexRefusal.{HexRefusal}
use Rattle.hex_text.specs.declared.hexadecimal.HexRefusal.TheVariants.{Fault, NoMemory}

-- a refusal of a text by its rule and place, unless memory ran out
abbrev pub RefusesText : HexRefusal → Result (List ℕ) (HexRule × ℕ) → Type 0
RefusesText (Fault rule place) read = read ≡ Err (rule, place)
RefusesText NoMemory read = Unit {0}
