use Rattle.std.proofs.Common.{◌≡◌, take, sum_by}
use Rattle.tie_expr.specs.Tree.{size}
use Rattle.tie_expr.proofs.weight.+weigh.Given as goal

abbrev pub invariant-weigh_all-loop-x : goal.invariant-weigh_all-loop-x
invariant-weigh_all-loop-x l = l.total ≡ sum_by size (take l.x-index l.all)
