use Rattle.std.proofs.Common.{map}
use Rattle.tie_mean.specs.Names.{is_among, table_declared}
use Rattle.tie_mean.specs.Setters.{leaf_names}
use Rattle.tie_results.specs.Texts.{tables_in}
use Rattle.tie_results.proofs.Used.{AreUsesTo}
use Rattle.tie_results.proofs.uses.body_uses.Given as goal

abbrev pub invariant-loop-k : goal.invariant-loop-k
invariant-loop-k l = AreUsesTo (is_among (map table_declared (tables_in l.frame.text.now))) (leaf_names l.frame.inputs.now) l.frame.items.now (map (λ ks. ks.items) l.items.items) l.setters l.k
