use Rattle.std.proofs.Common.{◌≡◌, take, map}
use Rattle.tie_mean.specs.Setters.{leaf_names}
use Rattle.tie_results.proofs.callees.parameter_leaves.Given as goal

abbrev pub invariant-loop-parameter : goal.invariant-loop-parameter
invariant-loop-parameter l = leaf_names l.leaves.items ≡ map (λ x. x.name.bytes) (take l.parameter-index l.parameters)
