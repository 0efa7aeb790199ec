-- Numbers that fit a width.
use Rattle.std.proofs.Common.{◌≡◌, ℕ, ◌%◌, ◌<◌, ◌^◌, List, length, slice_index, All}
use Rattle.std.proofs.Math.Nat.{mod-eq_of_lt}
use Rattle.std.proofs.lemmas.List.Elements.{All-get_or}

-- each number of such a list is its low bits
pub kept : (w : ℕ) (xs : List ℕ) (i : ℕ) → i < length xs → All (λ v. v < 2 ^ w) xs → slice_index xs i % 2 ^ w ≡ slice_index xs i
kept w xs i h fit = mod-eq_of_lt (All-get_or (λ v. v < 2 ^ w) xs i 0 h fit)
