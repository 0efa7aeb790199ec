use Rattle.xt_exec.proofs.Determined.{same_stop}
use Rattle.xt_exec.proofs.laws.one_stop.Goals as goal

pub returns : goal.returns
returns c = same_stop
