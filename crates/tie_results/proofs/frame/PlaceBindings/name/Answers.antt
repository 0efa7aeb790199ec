use Rattle.std.proofs.Common.{ap, sym, ◌∙◌}
use Rattle.std.specs.Option.{is_some}
use Rattle.tie_mean.specs.Setters.{leaf_names}
use Rattle.tie_results.proofs.Inputs.{has_number}
use Rattle.tie_results.proofs.frame.PlaceBindings.name.Goals as goal

pub set_name-requires-clause-free : goal.set_name-requires-clause-free
set_name-requires-clause-free c = has_number (leaf_names c.args.self.now.frame.now.inputs.now) c.args.name.now.bytes ∙ ap is_some (sym c.in-None.ensures)

pub unset_name-requires-clause-free : goal.unset_name-requires-clause-free
unset_name-requires-clause-free c = has_number (leaf_names c.args.self.now.frame.now.inputs.now) c.args.name.now.bytes ∙ ap is_some (sym c.in-None.ensures)
