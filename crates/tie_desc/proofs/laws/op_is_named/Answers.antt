use Rattle.tie_desc.proofs.NameLemmas.{op_named-own}
use Rattle.tie_desc.proofs.laws.op_is_named.Goals as goal

pub returns : goal.returns
returns c = op_named-own
