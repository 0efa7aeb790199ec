use Rattle.load_law.proofs.Laws.{steady_net}
use Rattle.load_law.proofs.steady_net.Goals as goal

pub returns : goal.returns
returns c = λ s name file told steady refused. steady_net s name file told steady refused
