use Rattle.kahn_law.proofs.Rounds.{has_one_stop}
use Rattle.kahn_law.proofs.one_stop.Goals as goal

pub returns : goal.returns
returns g c net gate = has_one_stop net gate
