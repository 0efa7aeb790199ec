use Rattle.std.proofs.Common.{◌≡◌, take, map}
use Rattle.std.specs.List.{flat_map}
use Rattle.tie_mean.specs.Names as names
use Rattle.tie_mean.specs.Setters.{leaf_names}
use Rattle.tie_mean.proofs.body.table_leaves.Given as goal

abbrev pub invariant-loop-declaration : goal.invariant-loop-declaration
invariant-loop-declaration l = leaf_names l.leaves.items ≡ map (λ x. x.name.bytes) (flat_map names.table_of (take l.declaration-index l.tree.declarations))
