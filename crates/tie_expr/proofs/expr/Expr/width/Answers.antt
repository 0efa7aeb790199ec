use Rattle.std.proofs.Common.{◌≡◌, ◌^◌, ◌<◌, ◌∙◌, IsTrue, sym, ap, subst}
use Rattle.tie_expr.specs.Tree.{meaning, typed}
use Rattle.tie_expr.specs.declared.node.Node.{Node}
use Rattle.tie_expr.proofs.Bounds.{bounded}
use Rattle.tie_expr.proofs.expr.Expr.width.Goals as goal

pub returns-clause-below : goal.returns-clause-below
returns-clause-below c = λ env.
    let checked = subst (λ (x : Node). IsTrue (typed x)) c.self.view_is c.self.invariant.5 in
    let width : c.self.inside.width ≡ (meaning c.args.self.now).width = c.self.invariant.0 ∙ ap (λ (x : Node). (meaning x).width) c.self.view_is in
    subst (λ w. (meaning c.args.self.now).at env < 2 ^ w) (sym width) (bounded c.args.self.now checked env)
