-- What a read gives.
use Rattle.std.specs.Prelude.{◌≡◌, ℕ, ◌+◌, ◌<◌, ◌≤◌, List, [], length, take, Option, Result, Ok, Err, IfSome}
use Rattle.tie_io.specs.declared.shelf.ReadFault.{ReadFault}
use Rattle.tie_io.specs.declared.shelf.ReadFault.TheVariants.{Failed, TooLong, NoMemory}

-- the file is these bytes, where the shelf tells it
abbrev pub IsFile : Option (List ℕ) → List ℕ → Type 0
IsFile told bytes = IfSome told (λ file. file ≡ bytes)

-- the file has more than so many bytes, and these are its first ones, one more than so many
abbrev pub IsLonger : Option (List ℕ) → ℕ → List ℕ → Type 0
IsLonger told limit front = (length front ≡ limit + 1) × IfSome told (λ file. (limit < length file) × (take (limit + 1) file ≡ front))

-- what stands in the buffer after a read, by its answer
abbrev pub IsRead : Option (List ℕ) → ℕ → List ℕ → Result (Unit {0}) ReadFault → Type 0
IsRead told limit bytes (Ok u) = (length bytes ≤ limit) × IsFile told bytes
IsRead told limit bytes (Err TooLong) = IsLonger told limit bytes
IsRead told limit bytes (Err Failed) = bytes ≡ []
IsRead told limit bytes (Err NoMemory) = bytes ≡ []
