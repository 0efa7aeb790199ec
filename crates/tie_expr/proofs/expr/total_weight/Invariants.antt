use Rattle.std.proofs.Common.{◌≡◌, take, sum_by}
use Rattle.tie_expr.specs.Tree.{size}
use Rattle.tie_expr.proofs.expr.total_weight.Given as goal

abbrev pub invariant-loop-arm : goal.invariant-loop-arm
invariant-loop-arm l = l.total ≡ sum_by size (take l.arm-index l.arms)
