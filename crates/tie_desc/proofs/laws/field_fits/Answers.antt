use Rattle.tie_desc.proofs.SlotLemmas.{limit-le}
use Rattle.tie_desc.proofs.laws.field_fits.Goals as goal

pub returns : goal.returns
returns c = λ d k ok. limit-le d k ok
