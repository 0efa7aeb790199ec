use Rattle.std.proofs.Common.{◌≡◌, subst}
use Rattle.std.specs.Result.{IfOk}
use Rattle.tie_expr.specs.Meaning.{Meaning as Typed}
use Rattle.tie_expr.specs.Tree.{meaning}
use Rattle.tie_translate.proofs.Built.{both_is}
use Rattle.tie_translate.proofs.operate.both.Goals as goal

pub returns-clause-means : goal.returns-clause-means
returns-clause-means c =
    let e = both_is c.args.n (meaning c.args.a) (meaning c.args.b) (meaning c.in_ok-left.left) (meaning c.in_ok-right.right) (meaning c.in_ok-all.all) c.in_ok-left.ensures.means c.in_ok-right.ensures.means c.in_ok-all.ensures.means in
    subst (λ (s : Typed). IfOk c.widen.result (λ e. meaning e ≡ s)) e c.widen.ensures.means
