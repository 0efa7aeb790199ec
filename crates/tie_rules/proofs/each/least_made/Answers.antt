use Rattle.tie_rules.proofs.Places.{each_next}
use Rattle.tie_rules.proofs.each.least_made.Goals as goal

pub loop-x-preserved : goal.loop-x-preserved
loop-x-preserved g c =
    rw (c.earlier-found.ensures, c.in_ok-place.ensures)
    (each_next (g.R.JudgeIn.places c.args.rule.now) c.loop-x.found c.args.xs.now c.loop-x.x-index c.x-item.result _ c.loop-x-test.true c.x-item.is c.loop-x.invariant)
