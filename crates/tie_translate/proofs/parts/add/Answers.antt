use Rattle.std.proofs.Common.{rules}
use Rattle.tie_expr.specs.Tree as typed
use Rattle.tie_translate.proofs.Added.{add_means, add_made}
use Rattle.tie_translate.proofs.parts.add.Goals as goal

pub returns-clause-means : goal.returns-clause-means
returns-clause-means c =
    add_means c.two-2.result (typed.meaning c.args.a) (typed.meaning c.args.b) (typed.meaning c.args.carry) (typed.meaning c.in_ok-a.a) (typed.meaning c.in_ok-b.b) (typed.meaning c.in_ok-sum.sum) (typed.meaning c.in_ok-carry.carry) c.max-width.result
    (search rules) c.in_ok-a.ensures.means c.in_ok-b.ensures.means c.in_ok-sum.ensures.means c.in_ok-carry.ensures.means c.two-2.ensures.means

pub returns-clause-made : goal.returns-clause-made
returns-clause-made c =
    add_made c.two-2.result c.args.a c.args.b c.args.carry c.in_ok-a.a c.in_ok-b.b c.in_ok-sum.sum c.in_ok-carry.carry
    c.in_ok-a.ensures.inputs c.in_ok-b.ensures.inputs c.in_ok-sum.ensures.inputs c.in_ok-carry.ensures.inputs
    c.in_ok-a.ensures.size c.in_ok-b.ensures.size c.in_ok-sum.ensures.size c.in_ok-carry.ensures.size c.two-2.ensures.inputs c.two-2.ensures.size
