use Rattle.std.proofs.Common.{ℕ, List, ◌<◌, ◌^◌, get_or}
use Rattle.tie_expr.specs.Word.{Word}
use Rattle.tie_expr.specs.Tree.{meaning}
use Rattle.tie_expr.specs.declared.node.Node.{Node}
use Rattle.tie_results.proofs.frame.see_widths.Given as goal

abbrev pub invariant-loop-argument : goal.invariant-loop-argument
invariant-loop-argument l = (k : ℕ) (d : Node) → k < l.argument-index → (env : List Word) → (meaning (get_or l.arguments k d)).at env < 2 ^ (meaning (get_or l.arguments k d)).width
