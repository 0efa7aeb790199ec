use Rattle.load_law.proofs.Laws.{loaded_refused}
use Rattle.load_law.proofs.loaded_refused.Goals as goal

pub returns : goal.returns
returns c = λ s name net e told is refused. loaded_refused s name net e told is refused
