use Rattle.kahn_law.proofs.Rounds.{a_reference_grows}
use Rattle.kahn_law.proofs.rounds_grow.Goals as goal

pub returns : goal.returns
returns g c net gate = a_reference_grows net gate
