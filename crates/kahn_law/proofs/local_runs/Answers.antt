use Rattle.kahn_law.proofs.Runs as lemmas
use Rattle.kahn_law.proofs.local_runs.Goals as goal

pub returns : goal.returns
returns g c r first = lemmas.local_runs r first
