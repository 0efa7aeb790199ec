-- Places with values.
use Rattle.std.specs.Prelude.{ℕ, List, [], ◌∷◌, if◌then◌else◌}
use Rattle.tie_desc.specs.Description.{Description}
use Rattle.tie_desc.specs.Spots.{same_spot}
use Rattle.tie_desc.specs.declared.bundle.Spot.{Spot}
use Rattle.xt_operate.specs.Bounds.{Fits}

-- the value of a place: that of its first entry, 0 where there is none
abbrev pub value_in : List (Spot × ℕ) → Spot → ℕ
value_in [] place = 0
value_in (x ∷ xs) place = if same_spot x.0 place then x.1 else value_in xs place

abbrev pub IsHeld : Description → Spot × ℕ → Type 0
IsHeld d x = Fits d x.0 x.1
