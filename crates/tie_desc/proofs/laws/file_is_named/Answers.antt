use Rattle.tie_desc.proofs.NameLemmas.{file_short_named-own}
use Rattle.tie_desc.proofs.laws.file_is_named.Goals as goal

pub returns : goal.returns
returns c = file_short_named-own
