use Rattle.tie_rules.proofs.Places.{behind_next}
use Rattle.tie_rules.proofs.each.least_behind.Goals as goal

pub loop-i-preserved : goal.loop-i-preserved
loop-i-preserved g c =
    rw (c.earlier-found.ensures, c.judge.ensures, c.before-in-loop-i.ensures)
    (behind_next (g.R.JudgeBehind.places c.args.rule.now) c.loop-i.found c.args.xs.now c.loop-i.i c.index-xs-i.result _ c.loop-i-test.true c.index-xs-i.is c.loop-i.invariant)
