use Rattle.std.proofs.Common.{arith}
use Rattle.xt_operate.proofs.HeldLemmas.{sar_fits}
use Rattle.xt_operate.proofs.parts.sar_of.Goals as goal

pub overflow_cast-result : goal.overflow_cast-result
overflow_cast-result c =
    let le = sar_fits c.args.desc.now c.args.reads.now.at c.requires.fit in
    omega (arith, le, c.value.ensures)

pub returns-clause-range : goal.returns-clause-range
returns-clause-range c =
    let le = sar_fits c.args.desc.now c.args.reads.now.at c.requires.fit in
    omega (arith, le, c.value.ensures)
