-- What stands behind a word or a number of a listing.
use Rattle.std.specs.Prelude.{◌≡◌, ℕ, List, [], ◌∷◌, ◌⊎◌}

-- a space, a comma or the line's end
abbrev pub Ends : List ℕ → Type 0
Ends [] = Unit {0}
Ends (b ∷ bs) = (b ≡ 32) ⊎ ((b ≡ 44) ⊎ (b ≡ 10))
