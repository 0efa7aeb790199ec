use Rattle.std.proofs.Common.{ℕ, Option, unwrap_or, ap, ◌∙◌}
use Rattle.tie_rules.specs.Names.{names_seen}
use Rattle.tie_rules.proofs.Found.{found_width}
use Rattle.tie_rules.proofs.widths.body_of.Goals as goal

pub invariant_of-result : goal.invariant_of-result
invariant_of-result c = record {
  right = λ q. ap (λ (o : Option ℕ). unwrap_or o 0) (c.in_ok-widths.ensures q) ∙ found_width (names_seen c.args.tree.now c.args.decl.now) q;
}
