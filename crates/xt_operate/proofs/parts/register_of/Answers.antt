use Rattle.std.proofs.Common.{arith}
use Rattle.xt_operate.proofs.HeldLemmas.{register_fits}
use Rattle.xt_operate.proofs.parts.register_of.Goals as goal

pub overflow_cast-result : goal.overflow_cast-result
overflow_cast-result c =
    let lt = register_fits c.args.desc.now c.args.reads.now.at c.args.i c.requires.fit in
    omega (arith, lt, c.value.ensures)
