use Rattle.tie_desc.proofs.FormatLemmas.{few_formats}
use Rattle.tie_desc.proofs.laws.few_formats.Goals as goal

pub returns : goal.returns
returns c = few_formats
