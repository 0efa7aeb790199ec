use Rattle.std.proofs.Common.{ap, ◌∙◌}
use Rattle.tie_rules.specs.Least.{behind}
use Rattle.tie_rules.specs.Bodies.{assigned_twice_item, assigned_twice_at}
use Rattle.tie_rules.specs.NameSets.{at_again, set_name, set_again_here}
use Rattle.tie_rules.proofs.NamedItems.{same_place, used_again}
use Rattle.tie_rules.proofs.assigned.AssignedTwiceJudgeInDecl.judge.Goals as goal

pub returns : goal.returns
returns c =
    let items = c.body.result.now in
    same_place c.least_again.result (behind (at_again set_name set_again_here) items) (assigned_twice_at c.args.decl.now)
    (used_again items ∙ ap (behind assigned_twice_item) c.body.ensures) c.least_again.ensures
