use Rattle.net_ref.proofs.WiredLemmas.{is_wired}
use Rattle.net_ref.proofs.laws.network_is_wired.Goals as goal

pub returns : goal.returns
returns c net sound = is_wired net sound
