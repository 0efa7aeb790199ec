use Rattle.tie_desc.proofs.SlotLemmas.{place_of-own}
use Rattle.tie_desc.proofs.laws.code_is_first.Goals as goal

pub returns : goal.returns
returns c = λ d s k c. place_of-own d s k c
