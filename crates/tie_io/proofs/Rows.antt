-- The definitions on small rows.
use Rattle.std.proofs.Common.{◌≡◌, ◌⊎◌, ℕ, ◌<◌, ◌≤◌, ◌-◌, ◌^◌, true, false, [], ◌∷◌, Some, None, codes, refl, arith}
use Rattle.tie_io.specs.Counts.{raised, Rose}
use Rattle.tie_io.specs.Memory.{held, is_planned, read_fails}

-- a count that rose is larger, or it stands at the last value
rose_is_more : (before after : ℕ) → Rose before after → (before < after) ⊎ (2 ^ 64 - 1 ≤ after)
rose_is_more before after h = grind arith

more_is_rose : (before after : ℕ) → before < after → Rose before after
more_is_rose before after h = grind arith

counts : raised 0 ≡ 1
counts = refl

last : raised (2 ^ 64 - 1) ≡ 2 ^ 64 - 1
last = refl

found : held ((codes "a", 1 ∷ []) ∷ (codes "b", 2 ∷ []) ∷ []) (codes "b") ≡ Some (2 ∷ [])
found = refl

absent : held ((codes "a", 1 ∷ []) ∷ []) (codes "b") ≡ None
absent = refl

fails_by_number : is_planned (1 ∷ 3 ∷ []) 3 ≡ true
fails_by_number = refl

not_planned : is_planned (1 ∷ 3 ∷ []) 2 ≡ false
not_planned = refl

fails_by_name : read_fails (record { files = []; fail = []; calls = 0; faults = 0 }) (codes "a") ≡ true
fails_by_name = refl
