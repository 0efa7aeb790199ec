use Rattle.std.proofs.Common.{◌≡◌, Bool, true, List, Option, length, sym, subst, ap, ◌∙◌}
use Rattle.std.specs.List.{list_all}
use Rattle.tie_expr.specs.declared.node.Node.{Node}
use Rattle.tie_mean.specs.Kept.{kept}
use Rattle.tie_mean.specs.Setters.{leaf_names}
use Rattle.tie_results.specs.Bodies.{AreMade}
use Rattle.tie_results.specs.Callees.{body_of}
use Rattle.tie_results.specs.Plans.{ArePresent, is_there}
use Rattle.tie_results.proofs.Planned.{outputs_there}
use Rattle.tie_results.proofs.body.results_of.Goals as goal

pub gather-requires-clause-made : goal.gather-requires-clause-made
gather-requires-clause-made c = subst (AreMade (body_of c.args.frame.now)) (sym c.deref-2.ensures.value) c.in_ok-made.ensures.made

pub gather-requires-clause-there : goal.gather-requires-clause-there
gather-requires-clause-there c =
    subst (λ (made : List (Option Node)). list_all (λ name. is_there made (kept c.in_ok-uses.uses.setters name)) (leaf_names c.args.outputs.now) ≡ true) (sym c.deref-2.ensures.value)
    (outputs_there (body_of c.args.frame.now) c.in_ok-uses.uses c.in_ok-marks.marks.items c.in_ok-made.made.items (leaf_names c.args.outputs.now) c.in_ok-uses.ensures.setters
    (subst (λ (marks : List Bool). ArePresent (body_of c.args.frame.now) marks c.in_ok-made.made.items) c.deref.ensures.value c.in_ok-made.ensures.present) c.in_ok-made.ensures.many c.in_ok-marks.ensures.marked)
