use Rattle.xt_mnemonics.proofs.Table.{same, fit}
use Rattle.xt_mnemonics.proofs.laws.rebuilt.Goals as goal

pub returns-clause-same : goal.returns-clause-same
returns-clause-same c = same

pub returns-clause-fit : goal.returns-clause-fit
returns-clause-fit c = fit
