use Rattle.net_toml.proofs.Tables.{list_any-map}
use Rattle.net_toml.proofs.names.add.Goals as goal

pub returns-clause-new : goal.returns-clause-new
returns-clause-new c = rw list_any-map c.in_ok-added.ensures.added
