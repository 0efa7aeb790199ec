use Rattle.std.proofs.Common.{rules, append_assoc}
use Rattle.net_desc.proofs.wired.port_key.Goals as goal

pub returns : goal.returns
returns c = search (rules, append_assoc)
