use Rattle.std.proofs.Common.{◌≡◌, take}
use Rattle.tie_mean.specs.Kept.{kept}
use Rattle.tie_mean.specs.Setters.{leaf_names}
use Rattle.tie_results.specs.Reads.{used}
use Rattle.tie_results.proofs.uses.setters_of.Given as goal

abbrev pub invariant-loop-name : goal.invariant-loop-name
invariant-loop-name l = l.numbers.items ≡ used (kept l.setters) (leaf_names l.inputs) (leaf_names (take l.name-index l.found))
