use Rattle.std.proofs.Common.{◌≡◌, IsTrue}
use Rattle.std.specs.List.{list_all}
use Rattle.tie_expr.specs.Tree.{typed}
use Rattle.tie_expr.proofs.expr.into_nodes.Given as goal

abbrev pub invariant-loop-arm : goal.invariant-loop-arm
invariant-loop-arm l = (goal.iterator-loop-arm).can_next l.arm-iterator × (goal.iterator-loop-arm).is_finite l.arm-iterator × (l.nodes ≡ l.yielded) × IsTrue (list_all typed l.nodes)
