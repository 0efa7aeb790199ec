-- What the parts of a network begin with.
use Rattle.std.specs.Prelude.{◌≡◌, []}
use Rattle.net_parts.specs.declared.parts.NetCore.{NetCore}
use Rattle.xt_exec.specs.First.{first_state}
use Rattle.net_ref.specs.Shown.{IsMade}
use Rattle.net_ref.specs.declared.channel.Channel.{Channel}
use Rattle.net_parts.specs.declared.ends.CoreEnd.{CoreEnd}

pub record IsFirstCore (here : NetCore) (x : CoreEnd) : Type 0 where
  pub retired : x.retired ≡ 0
  pub arch : x.arch ≡ first_state here.kit.desc here.memory here.text.items
  pub made : IsMade here x

pub record IsFirstChannel (x : Channel) : Type 0 where
  pub history : x.history.items ≡ []
  pub consumed : x.consumed ≡ 0
