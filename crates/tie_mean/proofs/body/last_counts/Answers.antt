use Rattle.std.proofs.Common.{get_or, ap}
use Rattle.tie_mean.proofs.KeptCounts.{counts_more}
use Rattle.tie_mean.proofs.body.last_counts.Goals as goal

pub loop-k-preserved : goal.loop-k-preserved
loop-k-preserved c =
    let items = c.args.body.now.items.now in
    let k = c.loop-k.k in
    let item = get_or items k c.index-body-k.result in
    counts_more c.args.body.now c.loop-k.counts c.keep_count.new.counts k c.item_count-count.result item c.loop-k.invariant c.loop-k-test.true (ap (get_or items k) c.index-body-k.is)
    c.item_count-count.ensures c.in_ok-keep_count.ensures
