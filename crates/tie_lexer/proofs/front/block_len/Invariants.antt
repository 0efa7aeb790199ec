use Rattle.std.proofs.Common.{◌≡◌, ℕ, length, ◌-◌, ◌+◌, ◌<◌, ◌≤◌, false}
use Rattle.tie_lexer.specs.Pieces.{closes_at}
use Rattle.tie_lexer.proofs.front.block_len.Given as goal

-- no `*/` ends before this place
abbrev pub invariant-loop-at : goal.invariant-loop-at
invariant-loop-at l = record { low : 3 ≤ l.at; none : (j : ℕ) → 2 ≤ j → j + 1 < l.at → closes_at l.rest j ≡ false }

abbrev pub decreases-loop-at : goal.decreases-loop-at
decreases-loop-at l = length l.rest - l.at
