use Rattle.std.proofs.Common.{sym, ◌∙◌, arith}
use Rattle.tie_expr.specs.Tree as typed
use Rattle.tie_grammar.specs.declared.tree.Expr.TheVariants as text
use Rattle.tie_mean.specs.Values.{meaning}
use Rattle.tie_translate.specs.Bounds as bound
use Rattle.tie_translate.proofs.Formed.{bit_bounded}
use Rattle.tie_translate.proofs.Meant.{meant, bit_form}
use Rattle.tie_translate.proofs.Ready.{bit_few, bit_low, bit_some, bit_at, some_size, within_limit, size_fits}
use Rattle.tie_translate.proofs.Sized.{bit_part}
use Rattle.tie_translate.proofs.translate.bit_form.Goals as goal

pub unwrap-at-requires : goal.unwrap-at-requires
unwrap-at-requires g c = bit_some ((g.B.Bindings.widths c.args.b.now).name c.args.name.now.bytes) (meaning (g.B.Bindings.widths c.args.b.now) c.args.index.now).number c.number_at.result (bit_part (g.B.Bindings.widths c.args.b.now) c.args.name.now c.args.index.now c.requires.bit c.requires.sized) (c.number_at.ensures (g.B.Bindings.widths c.args.b.now))

pub bit-requires-clause-known : goal.bit-requires-clause-known
bit-requires-clause-known g c = (bit_at ((g.B.Bindings.widths c.args.b.now).name c.args.name.now.bytes) (meaning (g.B.Bindings.widths c.args.b.now) c.args.index.now).number c.number_at.result c.unwrap-at.result (bit_part (g.B.Bindings.widths c.args.b.now) c.args.name.now c.args.index.now c.requires.bit c.requires.sized) (c.number_at.ensures (g.B.Bindings.widths c.args.b.now)) c.unwrap-at.ensures).known

pub bit-requires-clause-within : goal.bit-requires-clause-within
bit-requires-clause-within g c = (bit_at ((g.B.Bindings.widths c.args.b.now).name c.args.name.now.bytes) (meaning (g.B.Bindings.widths c.args.b.now) c.args.index.now).number c.number_at.result c.unwrap-at.result (bit_part (g.B.Bindings.widths c.args.b.now) c.args.name.now c.args.index.now c.requires.bit c.requires.sized) (c.number_at.ensures (g.B.Bindings.widths c.args.b.now)) c.unwrap-at.ensures).within

pub bit-requires-clause-few : goal.bit-requires-clause-few
bit-requires-clause-few g c = bit_few (g.B.Bindings.bounds c.args.b.now) c.args.name.now c.args.index.now bound.node_limit c.requires.one c.requires.few

pub widen-requires-clause-low : goal.widen-requires-clause-low
widen-requires-clause-low g c = bit_low (g.B.Bindings.widths c.args.b.now) (g.B.Bindings.env c.args.b.now) c.args.n c.args.name.now c.args.index.now c.unwrap-at.result (typed.meaning c.in_ok-bit.field-0) c.in_ok-bit.ensures.means c.requires.bit c.requires.low

pub widen-requires-clause-some : goal.widen-requires-clause-some
widen-requires-clause-some g c = some_size (g.B.Bindings.widths c.args.b.now) (text.Index c.args.name.now c.args.index.now) c.args.n c.requires.sized c.requires.low

pub widen-requires-clause-limit : goal.widen-requires-clause-limit
widen-requires-clause-limit g c = size_fits (typed.size c.in_ok-bit.field-0) 100 (within_limit (g.B.Bindings.bounds c.args.b.now).widths bound.part_room ((g.B.Bindings.bounds c.args.b.now).names c.args.name.now.bytes) (λ k. (g.B.Bindings.bounds c.args.b.now).reads k c.args.name.now.bytes) c.in_ok-bit.field-0 c.in_ok-bit.ensures.bounded (bit_few (g.B.Bindings.bounds c.args.b.now) c.args.name.now c.args.index.now bound.node_limit c.requires.one c.requires.few)) (omega arith)

pub returns-clause-means : goal.returns-clause-means
returns-clause-means g c = meant c.widen.result _ _ (bit_form (g.B.Bindings.widths c.args.b.now) (g.B.Bindings.env c.args.b.now) c.args.n c.args.name.now c.args.index.now c.unwrap-at.result (typed.meaning c.in_ok-bit.field-0) (sym c.unwrap-at.ensures ∙ (c.number_at.ensures (g.B.Bindings.widths c.args.b.now))) c.in_ok-bit.ensures.means c.requires.bit) c.widen.ensures.means

pub returns-clause-bounded : goal.returns-clause-bounded
returns-clause-bounded g c = bit_bounded c.widen.result (g.B.Bindings.bounds c.args.b.now) c.args.name.now c.args.index.now c.in_ok-bit.field-0 c.requires.one c.in_ok-bit.ensures.bounded c.widen.ensures.inputs c.widen.ensures.size
