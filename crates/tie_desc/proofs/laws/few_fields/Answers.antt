use Rattle.tie_desc.proofs.SlotLemmas.{longest-le}
use Rattle.tie_desc.proofs.laws.few_fields.Goals as goal

pub returns : goal.returns
returns c = λ d k ok. longest-le d k ok
