use Rattle.tie_flix.proofs.Refetched.{one_bundle}
use Rattle.tie_flix.proofs.laws.one_bundle.Goals as goal

pub returns : goal.returns
returns c = λ d a b x y. one_bundle d a b x y
