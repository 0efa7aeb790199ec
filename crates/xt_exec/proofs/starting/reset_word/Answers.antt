use Rattle.std.proofs.Common.{arith}
use Rattle.std.proofs.lemmas.Grind.{common_steps}
use Rattle.std.proofs.Math.Nat.{mod-eq_of_lt}
use Rattle.xt_exec.proofs.starting.reset_word.Goals as goal

pub returns : goal.returns
returns c = let same = mod-eq_of_lt c.requires.reset in grind (arith, common_steps)
