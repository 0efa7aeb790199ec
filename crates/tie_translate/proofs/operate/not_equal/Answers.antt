use Rattle.std.proofs.Common.{◌≡◌, subst}
use Rattle.std.specs.Result.{IfOk}
use Rattle.tie_expr.specs.Meaning.{Meaning as Typed}
use Rattle.tie_expr.specs.Tree.{meaning}
use Rattle.tie_translate.proofs.Built.{not_equal_is}
use Rattle.tie_translate.proofs.operate.not_equal.Goals as goal

pub returns-clause-means : goal.returns-clause-means
returns-clause-means c =
    let e = not_equal_is c.args.n (meaning c.args.a) (meaning c.args.b) (meaning c.in_ok-equal.equal) (meaning c.in_ok-other.other) c.in_ok-equal.ensures.means c.in_ok-other.ensures.means in
    subst (λ (s : Typed). IfOk c.widen.result (λ e. meaning e ≡ s)) e c.widen.ensures.means
