use Rattle.std.proofs.Common.{◌≡◌, subst}
use Rattle.std.specs.Result.{IfOk}
use Rattle.tie_expr.specs.Meaning.{Meaning as Typed}
use Rattle.tie_expr.specs.Tree as typed
use Rattle.tie_translate.proofs.Constants.{constant_is}
use Rattle.tie_translate.proofs.leaf.literal.Goals as goal

pub returns-clause-means : goal.returns-clause-means
returns-clause-means c =
    let e = constant_is c.args.x.now c.literal_value.result c.unwrap_or-value.result c.literal_width-width.result c.args.n c.new.result (typed.meaning c.in_ok-constant.constant)
    c.requires.sound c.literal_value.ensures c.unwrap_or-value.ensures c.literal_width-width.ensures c.new.ensures c.in_ok-constant.ensures.means in
    subst (λ (s : Typed). IfOk c.widen.result (λ e. typed.meaning e ≡ s)) e c.widen.ensures.means
