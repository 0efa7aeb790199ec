use Rattle.std.proofs.Common.{◌≡◌, ◌≤◌, ◌+◌, drop, map, sum}
use Rattle.tie_mean.specs.Counts as spec
use Rattle.tie_mean.specs.Setters.{leaf_names}
use Rattle.tie_mean.specs.CountScope.{counted_of, seen_in}
use Rattle.tie_mean.proofs.body.total_count.Given as goal

abbrev pub invariant-loop-leaf : goal.invariant-loop-leaf
invariant-loop-leaf l =
    (l.total ≤ 5000)
    × (spec.limited (l.total + sum (map (spec.set_count (counted_of l.body.what) (seen_in l.body) (leaf_names l.body.inputs.now) l.body.items.now) (leaf_names (drop l.leaf-index l.leaves))))
    ≡ spec.limited (sum (map (spec.set_count (counted_of l.body.what) (seen_in l.body) (leaf_names l.body.inputs.now) l.body.items.now) (leaf_names l.leaves))))
