use Rattle.std.proofs.Common.{◌≡◌, ap, sym, ◌∙◌, arith}
use Rattle.net_ref.proofs.Bits.{bit_7}
use Rattle.net_ref.proofs.moves.has_bit.Goals as goal

pub returns-in_default : goal.returns-in_default
returns-in_default c test e = let s : c.args.i ≡ 7 = omega arith in bit_7 c.args.bits test e ∙ ap test (sym s)
