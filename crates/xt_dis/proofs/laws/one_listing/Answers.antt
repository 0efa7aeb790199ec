use Rattle.xt_dis.proofs.OneListing.{same_listing}
use Rattle.xt_dis.proofs.laws.one_listing.Goals as goal

pub returns : goal.returns
returns c = λ d at bytes a b is. same_listing d is at bytes a b
