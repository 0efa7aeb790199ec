use Rattle.tie_desc.proofs.NameLemmas.{output_named-own}
use Rattle.tie_desc.proofs.laws.output_is_named.Goals as goal

pub returns : goal.returns
returns c = output_named-own
