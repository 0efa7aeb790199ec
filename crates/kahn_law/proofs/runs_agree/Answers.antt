use Rattle.kahn_law.proofs.TwoRuns as lemmas
use Rattle.kahn_law.proofs.runs_agree.Goals as goal

pub returns : goal.returns
returns g c net one other wired a b = lemmas.runs_agree net wired one other a b
