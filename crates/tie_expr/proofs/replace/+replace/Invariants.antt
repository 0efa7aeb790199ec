use Rattle.std.proofs.Common.{◌≡◌, map, take}
use Rattle.tie_expr.specs.Substitute.{replaced}
use Rattle.tie_expr.proofs.replace.+replace.Given as goal

abbrev pub invariant-replace_in_all-loop-x : goal.invariant-replace_in_all-loop-x
invariant-replace_in_all-loop-x l = l.made ≡ map (replaced l.arguments) (take l.x-index l.all)
