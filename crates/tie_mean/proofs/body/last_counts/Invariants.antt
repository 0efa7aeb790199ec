use Rattle.tie_mean.specs.CountScope.{AreCounts}
use Rattle.tie_mean.proofs.body.last_counts.Given as goal

abbrev pub invariant-loop-k : goal.invariant-loop-k
invariant-loop-k l = AreCounts l.body l.counts l.k
