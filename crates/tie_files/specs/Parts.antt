-- What the parts of the program answer.
use Rattle.std.specs.Prelude.{◌≡◌, ◌⊎◌, Result, Ok, Err}
use Rattle.tie_files.specs.declared.refusal.Refusal.{Refusal}
use Rattle.tie_files.specs.declared.refusal.Refusal.TheVariants.{NoMemory}

-- what a value says of a text, or how it is refused, unless memory ran out
abbrev pub Judges : {V : Type 0} → (V → Type 0) → (Refusal → Type 0) → Result V Refusal → Type 0
Judges Has Refused (Ok v) = Has v
Judges Has Refused (Err refusal) = (refusal ≡ NoMemory) ⊎ Refused refusal
