use Rattle.xt_isa.proofs.TableLemmas.{same_word}
use Rattle.xt_isa.proofs.laws.one_word.Goals as goal

pub returns : goal.returns
returns c = same_word
