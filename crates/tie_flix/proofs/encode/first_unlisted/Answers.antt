use Rattle.std.proofs.Common.{sym, arith}
use Rattle.tie_desc.specs.Spelling.{is_listed}
use Rattle.tie_flix.proofs.Firsts.{first_fails, one_more}
use Rattle.tie_flix.proofs.encode.first_unlisted.Goals as goal

pub returns-then-not-is_listed : goal.returns-then-not-is_listed
returns-then-not-is_listed c = first_fails is_listed c.args.slots.now c.args.parts.now c.loop-i.i c.index-slots-i.result _ c.index-slots-i.is (omega arith) (omega (arith, c.requires)) (sym c.if-not-is_listed.ensures) c.loop-i.invariant

pub loop-i-preserved : goal.loop-i-preserved
loop-i-preserved c = one_more is_listed c.args.slots.now c.args.parts.now c.loop-i.i c.index-slots-i.result _ c.index-slots-i.is (omega arith) (omega (arith, c.requires)) (sym c.if-not-is_listed.ensures) c.loop-i.invariant
