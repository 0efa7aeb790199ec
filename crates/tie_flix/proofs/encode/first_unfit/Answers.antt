use Rattle.std.proofs.Common.{sym, arith}
use Rattle.tie_flix.specs.Faults.{fits_in}
use Rattle.tie_flix.proofs.Firsts.{first_fails, one_more}
use Rattle.tie_flix.proofs.encode.first_unfit.Goals as goal

pub returns-then-not-fits_in : goal.returns-then-not-fits_in
returns-then-not-fits_in c = first_fails (fits_in c.args.desc.now) c.args.slots.now c.args.parts.now c.loop-i.i c.index-slots-i.result _ c.index-slots-i.is (omega arith) (omega (arith, c.requires)) (sym c.if-not-fits_in.ensures) c.loop-i.invariant

pub loop-i-preserved : goal.loop-i-preserved
loop-i-preserved c = one_more (fits_in c.args.desc.now) c.args.slots.now c.args.parts.now c.loop-i.i c.index-slots-i.result _ c.index-slots-i.is (omega arith) (omega (arith, c.requires)) (sym c.if-not-fits_in.ensures) c.loop-i.invariant
