use Rattle.tie_desc.proofs.FormatLemmas.{format_numbers_differ}
use Rattle.tie_desc.proofs.laws.format_numbers_differ.Goals as goal

pub returns : goal.returns
returns c = format_numbers_differ
