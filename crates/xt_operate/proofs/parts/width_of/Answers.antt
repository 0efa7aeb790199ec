use Rattle.std.proofs.Common.{arith}
use Rattle.xt_operate.proofs.BoundLemmas.{bound_width}
use Rattle.xt_operate.proofs.parts.width_of.Goals as goal

pub returns-clause-low : goal.returns-clause-low
returns-clause-low c =
    let w = bound_width c.args.desc.now c.facts.ensures c.args.bound.now.access.kind c.args.bound.now.number c.requires.number in
    omega (arith, w.some, c.kind_width.ensures)

pub returns-clause-high : goal.returns-clause-high
returns-clause-high c =
    let w = bound_width c.args.desc.now c.facts.ensures c.args.bound.now.access.kind c.args.bound.now.number c.requires.number in
    omega (arith, w.most, c.kind_width.ensures)
