use Rattle.std.proofs.Common.{Bool, ◌||◌, Option, ap, ◌∙◌}
use Rattle.tie_grammar.specs.declared.symbol.Leaf.{Leaf}
use Rattle.tie_mean.specs.Kept.{met}
use Rattle.tie_rules.specs.Names.{names}
use Rattle.tie_rules.specs.NameSets.{has_name}
use Rattle.tie_rules.proofs.NameSets.{any_next}
use Rattle.tie_rules.proofs.again.names_in.Goals as goal

pub loop-x-preserved : goal.loop-x-preserved
loop-x-preserved g c = λ q.
    let name = g.N.Named.name c.args.named.now in
    let x = c.x-item.result in
    c.in_ok-meet_any.ensures.met q ∙ ap (λ (o : Option Leaf). names q o || met c.loop-x.found q) c.name_of.ensures ∙ ap (λ (b : Bool). names q (name x) || b) (c.loop-x.invariant q)
    ∙ any_next (has_name name q) c.args.xs.now c.loop-x.x-index x c.loop-x-test.true c.x-item.is
