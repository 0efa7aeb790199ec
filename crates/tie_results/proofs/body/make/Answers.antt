use Rattle.std.proofs.Common.{length, Some, sym, subst}
use Rattle.tie_mean.specs.Names.{setting}
use Rattle.tie_grammar.specs.declared.tree.Item.{Item}
use Rattle.tie_results.specs.Bodies.{bounds_of}
use Rattle.tie_results.specs.Callees.{body_of}
use Rattle.tie_results.specs.Plans.{IsOneOf}
use Rattle.tie_results.proofs.body.make.Goals as goal

pub returns-in_ok-make_value-in-WireSet : goal.returns-in_ok-make_value-in-WireSet
returns-in_ok-make_value-in-WireSet c =
    subst (λ (i : Item). IsOneOf (body_of c.args.place.now.frame.now) (length c.args.place.now.made.now) (bounds_of (body_of c.args.place.now.frame.now) c.args.place.now.made.now (length c.args.place.now.made.now)) (setting i)
    (Some c.in_ok-make_value-in-WireSet.field-0)) (sym c.in-WireSet.is) c.in_ok-make_value-in-WireSet.ensures

pub returns-in_ok-make_value-in-Assign : goal.returns-in_ok-make_value-in-Assign
returns-in_ok-make_value-in-Assign c =
    subst (λ (i : Item). IsOneOf (body_of c.args.place.now.frame.now) (length c.args.place.now.made.now) (bounds_of (body_of c.args.place.now.frame.now) c.args.place.now.made.now (length c.args.place.now.made.now)) (setting i)
    (Some c.in_ok-make_value-in-Assign.field-0)) (sym c.in-Assign.is) c.in_ok-make_value-in-Assign.ensures
