use Rattle.std.proofs.Common.{Bool, ◌||◌, List, ap, ◌∙◌}
use Rattle.tie_grammar.specs.declared.symbol.Leaf.{Leaf}
use Rattle.tie_mean.specs.Kept.{met}
use Rattle.tie_rules.specs.Names.{listed}
use Rattle.tie_rules.specs.NameSets.{lists_name}
use Rattle.tie_rules.proofs.NameSets.{any_next}
use Rattle.tie_rules.proofs.again.leaves_in.Goals as goal

pub loop-x-preserved : goal.loop-x-preserved
loop-x-preserved g c = λ q.
    let leaves = g.L.Lists.leaves c.args.lists.now in
    let x = c.x-item.result in
    c.in_ok-meet_all.ensures q ∙ ap (λ (ls : List Leaf). listed q ls || met c.loop-x.found q) c.leaves_of.ensures ∙ ap (λ (b : Bool). listed q (leaves x) || b) (c.loop-x.invariant q)
    ∙ any_next (lists_name leaves q) c.args.xs.now c.loop-x.x-index x c.loop-x-test.true c.x-item.is
