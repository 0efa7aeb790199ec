use Rattle.tie_results.specs.Callees.{body_of}
use Rattle.tie_results.proofs.Making.{IsMaking}
use Rattle.tie_results.proofs.body.make_needed.Given as goal

abbrev pub invariant-loop-k : goal.invariant-loop-k
invariant-loop-k l = IsMaking (body_of l.frame) l.marks l.made.items l.setters l.k
