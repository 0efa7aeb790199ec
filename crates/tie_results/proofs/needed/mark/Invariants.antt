use Rattle.std.proofs.Common.{◌≡◌, ℕ, ◌||◌, length, take}
use Rattle.tie_results.specs.Reads.{is_marked, is_among}
use Rattle.tie_results.proofs.needed.mark.Given as goal

abbrev pub invariant-loop-number : goal.invariant-loop-number
invariant-loop-number l = ((k : ℕ) → is_marked l.marks.items k ≡ (is_marked l.fn.marks.items k || is_among (take l.number-index l.numbers) k)) × (length l.marks.items ≡ length l.fn.marks.items)
