use Rattle.std.proofs.Common.{◌≡◌, List, [], ◌∷◌, ◌++◌, length, subst, rules}
use Rattle.std.proofs.lemmas.List.{nil_from_length}
use Rattle.tie_expr.specs.declared.node.Node.{Node}
use Rattle.tie_translate.proofs.Joined.{IsJoined, joined_step, joined_means}
use Rattle.tie_translate.proofs.parts.join_all.Goals as goal

pub loop-high-preserved : goal.loop-high-preserved
loop-high-preserved c =
    let P : List Node → Type 0 = λ ps. IsJoined c.args.parts.items (ps ++ c.loop-high.low ∷ []) in
    joined_step c.args.parts.items c.pop-in-loop-high.new.self.items c.in-Some.high c.loop-high.low c.in_ok-low.low c.in_ok-low.ensures.means c.in_ok-low.ensures.inputs c.in_ok-low.ensures.size
    (subst P c.in-Some.ensures.items c.loop-high.invariant)

pub returns-clause-means : goal.returns-clause-means
returns-clause-means c =
    let P : List Node → Type 0 = λ ps. IsJoined c.args.parts.items (ps ++ c.loop-high.low ∷ []) in
    let none : length c.loop-high.parts.items ≡ 0 = search rules in
    joined_means c.args.parts.items c.loop-high.low (subst P (nil_from_length c.loop-high.parts.items none) c.loop-high.invariant)
