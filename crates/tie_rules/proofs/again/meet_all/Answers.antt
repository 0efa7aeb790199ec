use Rattle.std.proofs.Common.{Bool, ◌||◌, take, ap, ◌∙◌}
use Rattle.tie_mean.specs.Kept.{met}
use Rattle.tie_mean.specs.Names.{is_named}
use Rattle.tie_rules.specs.Names.{listed}
use Rattle.tie_rules.proofs.NameSets.{any_next, or_assoc}
use Rattle.tie_rules.proofs.again.meet_all.Goals as goal

pub loop-leaf-preserved : goal.loop-leaf-preserved
loop-leaf-preserved c = λ q.
    let xs = c.args.leaves.now in
    let i = c.loop-leaf.leaf-index in
    let x = c.leaf-item.result in
    let first = met c.args.before.now q in
    c.in_ok-meet.ensures.met q ∙ ap (λ (b : Bool). is_named q x || b) (c.loop-leaf.invariant q)
    ∙ or_assoc (is_named q x) (listed q (take i xs)) first ∙ ap (λ (b : Bool). b || first) (any_next (is_named q) xs i x c.loop-leaf-test.true c.leaf-item.is)
