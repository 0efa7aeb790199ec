use Rattle.tie_desc.proofs.SlotLemmas.{slots_space-le}
use Rattle.tie_desc.proofs.laws.slots_fit_width.Goals as goal

pub returns : goal.returns
returns c = slots_space-le
