use Rattle.std.proofs.Common.{IsTrue, take}
use Rattle.std.specs.List.{list_all}
use Rattle.tie_expr.specs.Tree.{typed}
use Rattle.tie_expr.proofs.expr.see_each.Given as goal

abbrev pub invariant-loop-argument : goal.invariant-loop-argument
invariant-loop-argument l = IsTrue (list_all typed (take l.argument-index l.arguments))
