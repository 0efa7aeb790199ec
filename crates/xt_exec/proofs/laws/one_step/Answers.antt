use Rattle.xt_exec.proofs.Determined.{same_step}
use Rattle.xt_exec.proofs.laws.one_step.Goals as goal

pub returns : goal.returns
returns c = same_step
