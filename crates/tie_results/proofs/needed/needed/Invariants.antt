use Rattle.std.proofs.Common.{map}
use Rattle.tie_results.proofs.Marks.{AreMarked}
use Rattle.tie_results.proofs.needed.needed.Given as goal

abbrev pub invariant-loop-k : goal.invariant-loop-k
invariant-loop-k l = AreMarked (map (λ ks. ks.items) l.uses) l.last l.marks.items l.k

abbrev pub decreases-loop-k : goal.decreases-loop-k
decreases-loop-k l = l.k
