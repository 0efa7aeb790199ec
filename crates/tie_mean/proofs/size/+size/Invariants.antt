use Rattle.std.proofs.Common.{◌≡◌, ◌≤◌, ◌+◌, max, drop, sum}
use Rattle.tie_mean.specs.Sizes as spec
use Rattle.tie_mean.specs.Values as value
use Rattle.tie_mean.proofs.size.+size.Given as goal

abbrev pub invariant-greatest_arm_size-loop-i : goal.invariant-greatest_arm_size-loop-i
invariant-greatest_arm_size-loop-i g l =
    (l.greatest ≤ 4294967296)
    × (spec.limited (max l.greatest (spec.greatest_size (value.sizes (g.S.Scope.widths l.scope) (drop l.i l.parts))))
    ≡ spec.limited (spec.greatest_size (value.sizes (g.S.Scope.widths l.scope) (drop 1 l.parts))))

abbrev pub invariant-total_size-loop-part : goal.invariant-total_size-loop-part
invariant-total_size-loop-part g l =
    (l.total ≤ 4294967296)
    × (spec.limited (l.total + sum (value.sizes (g.S.Scope.widths l.scope) (drop l.part-index l.parts))) ≡ spec.limited (sum (value.sizes (g.S.Scope.widths l.scope) l.parts)))
