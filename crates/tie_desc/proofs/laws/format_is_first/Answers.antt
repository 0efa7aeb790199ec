use Rattle.tie_desc.proofs.FormatLemmas.{format_is_first}
use Rattle.tie_desc.proofs.laws.format_is_first.Goals as goal

pub returns : goal.returns
returns c = format_is_first
