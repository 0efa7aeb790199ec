use Rattle.std.proofs.Common.{sym, arith}
use Rattle.net_toml.proofs.Tables.{two_of-other}
use Rattle.net_toml.proofs.values.two_of.Goals as goal

pub returns-in_default : goal.returns-in_default
returns-in_default c = let below = rw c.as_slice.ensures.value at c.in_default.len_below in sym (two_of-other c.args.array.now.items (λ e. omega arith))

pub returns-in_default-3 : goal.returns-in_default-3
returns-in_default-3 c = let above = rw c.as_slice.ensures.value at c.in_default.len_at_least in sym (two_of-other c.args.array.now.items (λ e. omega arith))
