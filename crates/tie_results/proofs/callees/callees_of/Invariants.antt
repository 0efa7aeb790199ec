use Rattle.tie_results.specs.Callees.{AreCallees}
use Rattle.tie_results.specs.Translated.{calls_behind}
use Rattle.tie_results.proofs.callees.callees_of.Given as goal

abbrev pub invariant-loop-k : goal.invariant-loop-k
invariant-loop-k l = AreCallees (calls_behind l.tree l.k) l.callees.items
