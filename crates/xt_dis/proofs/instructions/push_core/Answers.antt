use Rattle.std.proofs.Common.{arith, append_assoc}
use Rattle.xt_dis.proofs.Filled.{no_more}
use Rattle.xt_dis.proofs.instructions.push_core.Goals as goal

pub returns : goal.returns
returns c =
    let same = no_more c.args.at c.args.inst.now in
    grind (arith, append_assoc, same)
