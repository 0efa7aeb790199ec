use Rattle.std.proofs.Common.{ℕ, false, Option, ap, ◌∙◌}
use Rattle.tie_rules.specs.Least.{earlier, least, behind}
use Rattle.tie_rules.specs.NameSets.{at_lists, operands, operands_here}
use Rattle.tie_rules.proofs.ScheduleLists.{operand_parts}
use Rattle.tie_rules.proofs.scheduled.operand_twice.Goals as goal

pub returns : goal.returns
returns c =
    let items = c.args.items.now in
    c.earlier.ensures
    ∙ ap (λ (o : Option ℕ). earlier o c.in_ok-defined.defined) c.in_ok-used.ensures
    ∙ ap (earlier (least (behind (at_lists (operands false) (operands_here false)) items))) c.in_ok-defined.ensures
    ∙ operand_parts items
