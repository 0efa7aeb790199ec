use Rattle.std.proofs.Common.{◌≡◌, slice_get, ap, sym, ◌∙◌}
use Rattle.tie_check.proofs.operations.all_results.Goals as goal

pub results_among-requires-clause-operations : goal.results_among-requires-clause-operations
results_among-requires-clause-operations c = λ k o here. c.requires.operations k o (ap (λ ds. slice_get ds k) (sym c.as_slice.ensures) ∙ here)
