use Rattle.tie_desc.proofs.NameLemmas.{input_named-own}
use Rattle.tie_desc.proofs.laws.input_is_named.Goals as goal

pub returns : goal.returns
returns c = input_named-own
