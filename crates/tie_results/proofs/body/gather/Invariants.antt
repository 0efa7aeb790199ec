use Rattle.std.proofs.Common.{take}
use Rattle.tie_mean.specs.Setters.{leaf_names}
use Rattle.tie_results.specs.Bodies.{AreResultsOf}
use Rattle.tie_results.specs.Callees.{body_of}
use Rattle.tie_results.proofs.body.gather.Given as goal

abbrev pub invariant-loop-output : goal.invariant-loop-output
invariant-loop-output l = AreResultsOf (body_of l.frame) (leaf_names (take l.output-index l.outputs)) l.results.items
