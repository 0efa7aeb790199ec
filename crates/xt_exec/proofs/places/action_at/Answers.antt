use Rattle.std.proofs.Common.{◌∙◌, ap}
use Rattle.xt_core.specs.Action.{action}
use Rattle.xt_core.specs.View.{view_of}
use Rattle.xt_exec.proofs.places.action_at.Goals as goal

pub returns-clause-value : goal.returns-clause-value
returns-clause-value c = c.action_of.ensures.value ∙ ap (λ r. action c.args.inst (view_of r)) c.core.ensures.value
