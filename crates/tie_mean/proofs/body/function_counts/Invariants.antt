use Rattle.tie_mean.specs.Names as names
use Rattle.tie_mean.specs.Counts.{seen_behind}
use Rattle.tie_mean.specs.CountScope.{AreFunctions}
use Rattle.tie_mean.proofs.body.function_counts.Given as goal

abbrev pub invariant-loop-k : goal.invariant-loop-k
invariant-loop-k l = AreFunctions l.functions.items (seen_behind (names.table_named l.tree) l.tree.declarations l.k)
