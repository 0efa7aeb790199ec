use Rattle.tie_describe.specs.Described.{ops}
use Rattle.tie_description_law.proofs.Kept.{kept}
use Rattle.tie_description_law.proofs.Whole.{is_description}
use Rattle.tie_description_law.proofs.facts.Goals as goal

pub returns : goal.returns
returns c = λ t results none text fit. is_description t results (kept t none) text fit
