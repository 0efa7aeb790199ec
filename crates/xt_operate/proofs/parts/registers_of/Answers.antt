use Rattle.xt_operate.specs.Values.{value_in}
use Rattle.xt_operate.proofs.HeldLemmas.{same_registers, same_view}
use Rattle.xt_operate.proofs.parts.registers_of.Goals as goal

pub returns-clause-view : goal.returns-clause-view
returns-clause-view c =
    let d = c.args.desc.now in
    let xs = c.args.reads.now.at in
    same_view c.args.pc c.sar_of-sar.result c.ars_of-ar.result (value_in xs)
    (same_registers d xs c.ars_of-ar.result c.requires.fit c.ars_of-ar.ensures.count c.ars_of-ar.ensures.values) c.sar_of-sar.ensures.value
