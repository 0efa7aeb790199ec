use Rattle.std.proofs.Common.{[], ◌∷◌, ◌++◌, vec_len}
use Rattle.tie_translate.proofs.Joined.{IsJoined}
use Rattle.tie_translate.proofs.parts.join_all.Given as goal

abbrev pub invariant-loop-high : goal.invariant-loop-high
invariant-loop-high l = IsJoined l.fn.parts.items (l.parts.items ++ l.low ∷ [])

abbrev pub decreases-loop-high : goal.decreases-loop-high
decreases-loop-high l = vec_len l.parts
