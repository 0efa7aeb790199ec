use Rattle.std.proofs.Common.{rules, append_assoc}
use Rattle.net_toml.proofs.keys.place_before.Goals as goal

pub returns : goal.returns
returns c = search (rules, append_assoc)
