use Rattle.std.proofs.Common.{◌<◌, ◌^◌, subst, sym, arith}
use Rattle.std.proofs.lemmas.Nat.{one_shl, pow_below}
use Rattle.xt_core.proofs.numbers.power.Goals as goal

pub returns-clause-small : goal.returns-clause-small
returns-clause-small c = subst (λ x. x < 2 ^ 31) (sym (one_shl c.args.n 32 (omega arith))) (pow_below c.args.n 31 c.requires)
