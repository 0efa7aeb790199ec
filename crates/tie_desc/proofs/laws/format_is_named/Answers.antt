use Rattle.tie_desc.proofs.NameLemmas.{format_named-own}
use Rattle.tie_desc.proofs.laws.format_is_named.Goals as goal

pub returns : goal.returns
returns c = format_named-own
