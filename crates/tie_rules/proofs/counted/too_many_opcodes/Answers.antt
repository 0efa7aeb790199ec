use Rattle.std.proofs.Common.{ap, ◌∙◌}
use Rattle.tie_rules.specs.Least.{behind}
use Rattle.tie_rules.specs.Declarations.{too_many_opcodes}
use Rattle.tie_rules.specs.Tallies.{at_count, operation_number, many_operations}
use Rattle.tie_rules.proofs.NamedItems.{same_place}
use Rattle.tie_rules.proofs.Counting.{too_many_operations}
use Rattle.tie_rules.proofs.counted.too_many_opcodes.Goals as goal

pub returns : goal.returns
returns c =
    same_place c.least_counted.result (behind (at_count operation_number many_operations) c.as_slice.result.now) (too_many_opcodes c.args.tree.now)
    (ap (behind (at_count operation_number many_operations)) c.as_slice.ensures ∙ too_many_operations c.args.tree.now) c.least_counted.ensures
