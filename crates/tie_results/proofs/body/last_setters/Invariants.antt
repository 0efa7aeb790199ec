use Rattle.std.proofs.Common.{◌≡◌, map, take, Some}
use Rattle.tie_mean.specs.Kept.{kept}
use Rattle.tie_mean.specs.Setters.{leaf_names}
use Rattle.tie_results.proofs.body.last_setters.Given as goal

abbrev pub invariant-loop-output : goal.invariant-loop-output
invariant-loop-output l = map Some l.numbers.items ≡ map (kept l.setters) (leaf_names (take l.output-index l.outputs))
