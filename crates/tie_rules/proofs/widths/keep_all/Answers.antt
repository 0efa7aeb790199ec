use Rattle.tie_rules.proofs.Found.{keep_next}
use Rattle.tie_mean.specs.Kept.{kept}
use Rattle.tie_rules.proofs.widths.keep_all.Goals as goal

pub loop-x-preserved : goal.loop-x-preserved
loop-x-preserved g c = λ q.
    keep_next (g.D.Keeps.declared c.args.keeps.now) q c.args.xs.now c.loop-x.x-index c.x-item.result (kept c.args.widths.now q) (kept c.loop-x.widths q) (kept c.keep.new.widths q)
    c.loop-x-test.true c.x-item.is (c.loop-x.invariant q) (c.in_ok-keep.ensures q)
