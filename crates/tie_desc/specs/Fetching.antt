-- What bytes begin with, and the image of a text.
use Rattle.std.specs.Prelude.{◌≡◌, ℕ, List, ◌++◌, length, drop, Option, Some, None, slice_get}
use Rattle.tie_desc.specs.Description.{Description}
use Rattle.tie_desc.specs.Spelling.{spell, HasSpelling}
use Rattle.tie_desc.specs.declared.bundle.Bundle.{Bundle}
use Rattle.tie_desc.specs.declared.bundle.Fetched.{Fetched}

-- the bytes begin with these
abbrev pub Begins : List ℕ → List ℕ → Type 0
Begins bytes front = (rest : List ℕ) × (bytes ≡ front ++ rest)

-- a bundle with the length of its spelling
abbrev pub fetched_of : Description → Bundle → Fetched
fetched_of d b = record { bundle = b; length = length (spell d b) }

-- the bundle has a spelling, of this length, with which the bytes begin
pub record IsFetched (d : Description) (bytes : List ℕ) (f : Fetched) : Type 0 where
  pub has : HasSpelling d f.bundle
  pub length_is : f.length ≡ length (spell d f.bundle)
  pub begins : Begins bytes (spell d f.bundle)

-- no bundle's spelling begins the bytes
abbrev pub BeginsNone : Description → List ℕ → Type 0
BeginsNone d bytes = (b : Bundle) → HasSpelling d b → Begins bytes (spell d b) → ⊥

-- what the bytes begin with, or that they begin with no bundle
abbrev pub Shows : Description → List ℕ → Option Fetched → Type 0
Shows d bytes None = BeginsNone d bytes
Shows d bytes (Some f) = IsFetched d bytes f

-- at each place of a text what its bytes from there to the end begin with
pub record IsImage (d : Description) (text : List ℕ) (at : List (Option Fetched)) : Type 0 where
  pub long : length at ≡ length text
  pub each : (k : ℕ) (o : Option Fetched) → slice_get at k ≡ Some o → Shows d (drop k text) o
