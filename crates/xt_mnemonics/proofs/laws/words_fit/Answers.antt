use Rattle.xt_mnemonics.proofs.Table.{words_fit}
use Rattle.xt_mnemonics.proofs.laws.words_fit.Goals as goal

pub returns : goal.returns
returns c = words_fit
