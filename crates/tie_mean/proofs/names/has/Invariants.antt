use Rattle.std.proofs.Common.{◌≡◌, drop}
use Rattle.tie_mean.specs.Names as spec
use Rattle.tie_mean.specs.Setters.{leaf_names}
use Rattle.tie_mean.proofs.names.has.Given as goal

abbrev pub invariant-loop-leaf : goal.invariant-loop-leaf
invariant-loop-leaf l = spec.has (leaf_names (drop l.leaf-index l.names)) l.name.bytes ≡ spec.has (leaf_names l.names) l.name.bytes
