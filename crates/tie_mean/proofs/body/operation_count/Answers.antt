use Rattle.std.proofs.Common.{◌∙◌, ap}
use Rattle.tie_mean.specs.Setters.{leaf_names}
use Rattle.tie_mean.proofs.KeptCounts.{operation_count_is}
use Rattle.tie_mean.proofs.body.operation_count.Goals as goal

pub returns : goal.returns
returns c =
    c.total_count.ensures
    ∙ operation_count_is c.args.tree.now c.args.operation.now c.len.result (leaf_names c.deref-2.result.now) (leaf_names c.deref-3.result.now) c.as_slice.result.now
    c.len.ensures (ap leaf_names c.deref-2.ensures.value ∙ c.in_ok-inputs.ensures) c.as_slice.ensures (ap leaf_names c.deref-3.ensures.value ∙ c.in_ok-outputs.ensures)
