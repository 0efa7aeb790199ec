-- Refusals by a fault of reading.
use Rattle.std.specs.Prelude.{◌≡◌, ℕ, List}
use Rattle.net_load.specs.tie_files.declared.refusal.Refusal.{Refusal}
use Rattle.net_load.specs.tie_files.declared.refusal.Refusal.TheVariants.{ReadFault}

-- some file could not be read
abbrev pub IsReadFault : Refusal → Type 0
IsReadFault refusal = (name : List ℕ) × (refusal ≡ ReadFault name)
