use Rattle.std.proofs.Common.{arith}
use Rattle.tie_expr.specs.Tree as typed
use Rattle.tie_grammar.specs.declared.tree.Expr.TheVariants as text
use Rattle.tie_translate.specs.Bounds as bound
use Rattle.tie_translate.proofs.Formed.{select_bounded}
use Rattle.tie_translate.proofs.Meant.{meant, select_form}
use Rattle.tie_translate.proofs.Ready.{select_few, select_low, some_size, within_limit, size_fits}
use Rattle.tie_translate.proofs.Sized.{select_parts}
use Rattle.tie_translate.proofs.translate.select_form.Goals as goal

pub select-requires-clause-sized : goal.select-requires-clause-sized
select-requires-clause-sized g c = select_parts (g.B.Bindings.widths c.args.b.now) c.args.name.now c.args.high.now c.args.low.now c.requires.sized

pub select-requires-clause-few : goal.select-requires-clause-few
select-requires-clause-few g c = select_few (g.B.Bindings.bounds c.args.b.now) c.args.name.now c.args.high.now c.args.low.now bound.node_limit c.requires.few

pub widen-requires-clause-low : goal.widen-requires-clause-low
widen-requires-clause-low g c = select_low (g.B.Bindings.widths c.args.b.now) (g.B.Bindings.env c.args.b.now) c.args.n c.args.name.now c.args.high.now c.args.low.now (typed.meaning c.in_ok-select.field-0) c.in_ok-select.ensures.means c.requires.low

pub widen-requires-clause-some : goal.widen-requires-clause-some
widen-requires-clause-some g c = some_size (g.B.Bindings.widths c.args.b.now) (text.Select c.args.name.now c.args.high.now c.args.low.now) c.args.n c.requires.sized c.requires.low

pub widen-requires-clause-limit : goal.widen-requires-clause-limit
widen-requires-clause-limit g c = size_fits (typed.size c.in_ok-select.field-0) 100 (within_limit (g.B.Bindings.bounds c.args.b.now).widths bound.part_room ((g.B.Bindings.bounds c.args.b.now).names c.args.name.now.bytes) (λ k. (g.B.Bindings.bounds c.args.b.now).reads k c.args.name.now.bytes) c.in_ok-select.field-0 c.in_ok-select.ensures.bounded (select_few (g.B.Bindings.bounds c.args.b.now) c.args.name.now c.args.high.now c.args.low.now bound.node_limit c.requires.few)) (omega arith)

pub returns-clause-means : goal.returns-clause-means
returns-clause-means g c = meant c.widen.result _ _ (select_form (g.B.Bindings.widths c.args.b.now) (g.B.Bindings.env c.args.b.now) c.args.n c.args.name.now c.args.high.now c.args.low.now (typed.meaning c.in_ok-select.field-0) c.in_ok-select.ensures.means) c.widen.ensures.means

pub returns-clause-bounded : goal.returns-clause-bounded
returns-clause-bounded g c = select_bounded c.widen.result (g.B.Bindings.bounds c.args.b.now) c.args.name.now c.args.high.now c.args.low.now c.in_ok-select.field-0 c.in_ok-select.ensures.bounded c.widen.ensures.inputs c.widen.ensures.size
