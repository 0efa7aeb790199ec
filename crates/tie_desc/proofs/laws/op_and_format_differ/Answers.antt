use Rattle.tie_desc.proofs.NameLemmas.{op_and_format_differ}
use Rattle.tie_desc.proofs.laws.op_and_format_differ.Goals as goal

pub returns : goal.returns
returns c = op_and_format_differ
