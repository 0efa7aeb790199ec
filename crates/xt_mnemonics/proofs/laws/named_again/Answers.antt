use Rattle.xt_mnemonics.proofs.NameLaws.{named_again}
use Rattle.xt_mnemonics.proofs.laws.named_again.Goals as goal

pub returns : goal.returns
returns c = named_again
