use Rattle.std.proofs.Common.{arith}
use Rattle.tie_expr.specs.Tree as typed
use Rattle.tie_grammar.specs.declared.tree.Expr.TheVariants as text
use Rattle.tie_translate.specs.Bounds as bound
use Rattle.tie_translate.proofs.Formed.{name_bounded}
use Rattle.tie_translate.proofs.Meant.{meant, name_form}
use Rattle.tie_translate.proofs.Ready.{name_known, name_few, name_low, some_size, within_limit, size_fits}
use Rattle.tie_translate.proofs.translate.name_form.Goals as goal

pub name-requires-clause-known : goal.name-requires-clause-known
name-requires-clause-known g c = name_known (g.B.Bindings.widths c.args.b.now) c.args.name.now c.requires.sized

pub name-requires-clause-few : goal.name-requires-clause-few
name-requires-clause-few g c = name_few (g.B.Bindings.bounds c.args.b.now) c.args.name.now bound.node_limit c.requires.few

pub widen-requires-clause-low : goal.widen-requires-clause-low
widen-requires-clause-low g c = name_low (g.B.Bindings.widths c.args.b.now) (g.B.Bindings.env c.args.b.now) c.args.n c.args.name.now (typed.meaning c.in_ok-name.field-0) c.in_ok-name.ensures.means c.requires.low

pub widen-requires-clause-some : goal.widen-requires-clause-some
widen-requires-clause-some g c = some_size (g.B.Bindings.widths c.args.b.now) (text.Name c.args.name.now) c.args.n c.requires.sized c.requires.low

pub widen-requires-clause-limit : goal.widen-requires-clause-limit
widen-requires-clause-limit g c = size_fits (typed.size c.in_ok-name.field-0) 100 (within_limit (g.B.Bindings.bounds c.args.b.now).widths bound.name_room ((g.B.Bindings.bounds c.args.b.now).names c.args.name.now.bytes) (λ k. (g.B.Bindings.bounds c.args.b.now).reads k c.args.name.now.bytes) c.in_ok-name.field-0 c.in_ok-name.ensures.bounded (name_few (g.B.Bindings.bounds c.args.b.now) c.args.name.now bound.node_limit c.requires.few)) (omega arith)

pub returns-clause-means : goal.returns-clause-means
returns-clause-means g c = meant c.widen.result _ _ (name_form (g.B.Bindings.widths c.args.b.now) (g.B.Bindings.env c.args.b.now) c.args.n c.args.name.now (typed.meaning c.in_ok-name.field-0) c.in_ok-name.ensures.means) c.widen.ensures.means

pub returns-clause-bounded : goal.returns-clause-bounded
returns-clause-bounded g c = name_bounded c.widen.result (g.B.Bindings.bounds c.args.b.now) c.args.name.now c.in_ok-name.field-0 c.in_ok-name.ensures.bounded c.widen.ensures.inputs c.widen.ensures.size
