use Rattle.load_law.proofs.Laws.{one_refused}
use Rattle.load_law.proofs.one_refused.Goals as goal

pub returns : goal.returns
returns c = λ s name e f told p q. one_refused s name e f told p q
