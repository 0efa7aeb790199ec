use Rattle.std.proofs.Common.{◌≡◌, take}
use Rattle.tie_expr.proofs.replace.+copy.Given as goal

abbrev pub invariant-copies-loop-x : goal.invariant-copies-loop-x
invariant-copies-loop-x l = l.made ≡ take l.x-index l.all
