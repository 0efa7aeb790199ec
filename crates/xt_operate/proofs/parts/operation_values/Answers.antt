use Rattle.std.proofs.Common.{All, List, map, refl, subst, sym, slice_get, ap, ◌∙◌}
use Rattle.tie_expr.specs.Tree.{meaning}
use Rattle.xt_operate.specs.Bounds.{IsBound, written_bounds}
use Rattle.xt_operate.specs.declared.bounds.Bound.{Bound}
use Rattle.xt_operate.proofs.BoundLemmas.{have_bounds, op_widths, width_of}
use Rattle.xt_operate.proofs.parts.operation_values.Goals as goal

pub op_values-requires-clause-widths : goal.op_values-requires-clause-widths
op_values-requires-clause-widths c =
    let d = c.args.desc.now in
    ap (map (λ e. (meaning e).width)) c.results_of.ensures
    ∙ op_widths d c.facts.ensures c.args.part.now c.args.op (slice_get d.ops c.args.op) c.requires.code refl c.requires.fits
    ∙ ap (λ bs. map (width_of d) (written_bounds bs)) (sym c.requires.given)

pub op_values-requires-clause-bounds : goal.op_values-requires-clause-bounds
op_values-requires-clause-bounds c =
    let d = c.args.desc.now in
    let P : List Bound → Type 0 = λ bs. All (IsBound d) bs in
    subst P (sym c.requires.given) (have_bounds d c.args.part.now c.facts.ensures c.requires.fits)
