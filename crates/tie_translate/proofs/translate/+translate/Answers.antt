use Rattle.std.proofs.Common.{◌≡◌, ◌≤◌, ◌+◌, List, length, map, sum, take, slice_index, sym, ap, subst, ◌∙◌, arith, rules}
use Rattle.tie_expr.specs.Meaning.{Meaning as Typed}
use Rattle.tie_expr.specs.Tree as typed
use Rattle.tie_expr.specs.declared.node.Node.{Node}
use Rattle.tie_grammar.specs.declared.tree.Expr.{Expr}
use Rattle.tie_grammar.specs.declared.tree.Expr.TheVariants as text
use Rattle.tie_grammar.specs.declared.tree.Expr.TheFolds.{the_lemmas}
use Rattle.tie_mean.specs.Literals.{number, capped}
use Rattle.tie_mean.specs.Values.{meaning, size}
use Rattle.tie_translate.specs.Bounds as bound
use Rattle.tie_translate.specs.Translation.{arguments_typed, own_typed, widths_of}
use Rattle.tie_translate.proofs.Fitting.{side_fit_from}
use Rattle.tie_translate.proofs.Own.{sized_width, has_width}
use Rattle.tie_translate.proofs.Sized.{repeat_part, unary_part, binary_parts, condition_part, choice_parts, concat_parts, tie_arguments, tie_fits, call_arguments, entry_parts}
use Rattle.tie_translate.proofs.Same as same
use Rattle.tie_translate.proofs.Formed as formed
use Rattle.tie_translate.proofs.Meant as form
use Rattle.tie_translate.proofs.Lists as lists
use Rattle.tie_translate.proofs.Ready as ready
use Rattle.tie_translate.proofs.translate.+translate.Goals as goal

pub translate-literal-requires-clause-sound : goal.translate-literal-requires-clause-sound
translate-literal-requires-clause-sound g t c = ready.literal_known (g.B.Bindings.widths c.args.b.now) c.in-Literal.x (same.sized_same (g.B.Bindings.widths c.args.b.now) c.args.x.now (text.Literal c.in-Literal.x) (same.same c.args.x.now (text.Literal c.in-Literal.x) c.in-Literal.is) c.requires.sized)

pub translate-literal-requires-clause-low : goal.translate-literal-requires-clause-low
translate-literal-requires-clause-low g t c = ready.literal_low (g.B.Bindings.widths c.args.b.now) c.in-Literal.x c.args.n (same.size_same (g.B.Bindings.widths c.args.b.now) c.args.x.now (text.Literal c.in-Literal.x) c.args.n (same.same c.args.x.now (text.Literal c.in-Literal.x) c.in-Literal.is) c.requires.low)

pub translate-returns-in-Literal-clause-means : goal.translate-returns-in-Literal-clause-means
translate-returns-in-Literal-clause-means g t c = same.means_same c.literal.result (g.B.Bindings.widths c.args.b.now) (g.B.Bindings.env c.args.b.now) c.args.n c.args.x.now (text.Literal c.in-Literal.x) (same.same c.args.x.now (text.Literal c.in-Literal.x) c.in-Literal.is) (form.meant c.literal.result _ _ (form.literal_form (g.B.Bindings.widths c.args.b.now) (g.B.Bindings.env c.args.b.now) c.args.n c.in-Literal.x) c.literal.ensures.means)

pub translate-returns-in-Literal-clause-bounded : goal.translate-returns-in-Literal-clause-bounded
translate-returns-in-Literal-clause-bounded g t c = same.bounded_same c.literal.result (g.B.Bindings.bounds c.args.b.now) bound.room c.args.x.now (text.Literal c.in-Literal.x) (same.same c.args.x.now (text.Literal c.in-Literal.x) c.in-Literal.is) (formed.literal_bounded c.literal.result (g.B.Bindings.bounds c.args.b.now) c.in-Literal.x c.literal.ensures.inputs c.literal.ensures.size)

pub translate-name_form-requires-clause-sized : goal.translate-name_form-requires-clause-sized
translate-name_form-requires-clause-sized g t c = same.sized_same (g.B.Bindings.widths c.args.b.now) c.args.x.now (text.Name c.in-Name.name) (same.same c.args.x.now (text.Name c.in-Name.name) c.in-Name.is) c.requires.sized

pub translate-name_form-requires-clause-low : goal.translate-name_form-requires-clause-low
translate-name_form-requires-clause-low g t c = same.size_same (g.B.Bindings.widths c.args.b.now) c.args.x.now (text.Name c.in-Name.name) c.args.n (same.same c.args.x.now (text.Name c.in-Name.name) c.in-Name.is) c.requires.low

pub translate-name_form-requires-clause-few : goal.translate-name_form-requires-clause-few
translate-name_form-requires-clause-few g t c = same.nodes_same (g.B.Bindings.bounds c.args.b.now) c.args.x.now (text.Name c.in-Name.name) bound.node_limit (same.same c.args.x.now (text.Name c.in-Name.name) c.in-Name.is) c.requires.few

pub translate-returns-in-Name-clause-means : goal.translate-returns-in-Name-clause-means
translate-returns-in-Name-clause-means g t c = same.means_same c.name_form.result (g.B.Bindings.widths c.args.b.now) (g.B.Bindings.env c.args.b.now) c.args.n c.args.x.now (text.Name c.in-Name.name) (same.same c.args.x.now (text.Name c.in-Name.name) c.in-Name.is) c.name_form.ensures.means

pub translate-returns-in-Name-clause-bounded : goal.translate-returns-in-Name-clause-bounded
translate-returns-in-Name-clause-bounded g t c = same.bounded_same c.name_form.result (g.B.Bindings.bounds c.args.b.now) bound.room c.args.x.now (text.Name c.in-Name.name) (same.same c.args.x.now (text.Name c.in-Name.name) c.in-Name.is) c.name_form.ensures.bounded

pub translate-select_form-requires-clause-sized : goal.translate-select_form-requires-clause-sized
translate-select_form-requires-clause-sized g t c = same.sized_same (g.B.Bindings.widths c.args.b.now) c.args.x.now (text.Select c.in-Select.name c.in-Select.high c.in-Select.low) (same.same c.args.x.now (text.Select c.in-Select.name c.in-Select.high c.in-Select.low) c.in-Select.is) c.requires.sized

pub translate-select_form-requires-clause-low : goal.translate-select_form-requires-clause-low
translate-select_form-requires-clause-low g t c = same.size_same (g.B.Bindings.widths c.args.b.now) c.args.x.now (text.Select c.in-Select.name c.in-Select.high c.in-Select.low) c.args.n (same.same c.args.x.now (text.Select c.in-Select.name c.in-Select.high c.in-Select.low) c.in-Select.is) c.requires.low

pub translate-select_form-requires-clause-few : goal.translate-select_form-requires-clause-few
translate-select_form-requires-clause-few g t c = same.nodes_same (g.B.Bindings.bounds c.args.b.now) c.args.x.now (text.Select c.in-Select.name c.in-Select.high c.in-Select.low) bound.node_limit (same.same c.args.x.now (text.Select c.in-Select.name c.in-Select.high c.in-Select.low) c.in-Select.is) c.requires.few

pub translate-returns-in-Select-clause-means : goal.translate-returns-in-Select-clause-means
translate-returns-in-Select-clause-means g t c = same.means_same c.select_form.result (g.B.Bindings.widths c.args.b.now) (g.B.Bindings.env c.args.b.now) c.args.n c.args.x.now (text.Select c.in-Select.name c.in-Select.high c.in-Select.low) (same.same c.args.x.now (text.Select c.in-Select.name c.in-Select.high c.in-Select.low) c.in-Select.is) c.select_form.ensures.means

pub translate-returns-in-Select-clause-bounded : goal.translate-returns-in-Select-clause-bounded
translate-returns-in-Select-clause-bounded g t c = same.bounded_same c.select_form.result (g.B.Bindings.bounds c.args.b.now) bound.room c.args.x.now (text.Select c.in-Select.name c.in-Select.high c.in-Select.low) (same.same c.args.x.now (text.Select c.in-Select.name c.in-Select.high c.in-Select.low) c.in-Select.is) c.select_form.ensures.bounded

pub translate-index_form-requires : goal.translate-index_form-requires
translate-index_form-requires g t c κs within = ((search (rules, the_lemmas)), ((search (rules, the_lemmas)), (c.requires.right, ((same.sized_same (g.B.Bindings.widths c.args.b.now) c.args.x.now (text.Index c.in-Index.name c.get.result.now) (same.same_index c.in-Index.name c.in-Index.index c.get.result.now c.args.x.now c.get.ensures c.in-Index.is) c.requires.sized), ((same.size_same (g.B.Bindings.widths c.args.b.now) c.args.x.now (text.Index c.in-Index.name c.get.result.now) c.args.n (same.same_index c.in-Index.name c.in-Index.index c.get.result.now c.args.x.now c.get.ensures c.in-Index.is) c.requires.low), (c.requires.high, (same.nodes_same (g.B.Bindings.bounds c.args.b.now) c.args.x.now (text.Index c.in-Index.name c.get.result.now) bound.node_limit (same.same_index c.in-Index.name c.in-Index.index c.get.result.now c.args.x.now c.get.ensures c.in-Index.is) c.requires.few)))))))

pub translate-returns-in-Index-clause-means : goal.translate-returns-in-Index-clause-means
translate-returns-in-Index-clause-means g t c = same.means_same c.index_form.result (g.B.Bindings.widths c.args.b.now) (g.B.Bindings.env c.args.b.now) c.args.n c.args.x.now (text.Index c.in-Index.name c.get.result.now) (same.same_index c.in-Index.name c.in-Index.index c.get.result.now c.args.x.now c.get.ensures c.in-Index.is) c.index_form.ensures.means

pub translate-returns-in-Index-clause-bounded : goal.translate-returns-in-Index-clause-bounded
translate-returns-in-Index-clause-bounded g t c = same.bounded_same c.index_form.result (g.B.Bindings.bounds c.args.b.now) bound.room c.args.x.now (text.Index c.in-Index.name c.get.result.now) (same.same_index c.in-Index.name c.in-Index.index c.get.result.now c.args.x.now c.get.ensures c.in-Index.is) c.index_form.ensures.bounded

pub translate-call_form-requires : goal.translate-call_form-requires
translate-call_form-requires g t c κs within = ((search (rules, the_lemmas)), ((search (rules, the_lemmas)), (c.requires.right, ((same.sized_same (g.B.Bindings.widths c.args.b.now) c.args.x.now (text.Call c.in-Call.name 0 c.as_slice.result.now) (same.same_call c.in-Call.name c.in-Call.field-1 c.in-Call.arguments c.as_slice.result.now c.args.x.now c.as_slice.ensures c.in-Call.is) c.requires.sized), ((same.size_same (g.B.Bindings.widths c.args.b.now) c.args.x.now (text.Call c.in-Call.name 0 c.as_slice.result.now) c.args.n (same.same_call c.in-Call.name c.in-Call.field-1 c.in-Call.arguments c.as_slice.result.now c.args.x.now c.as_slice.ensures c.in-Call.is) c.requires.low), (c.requires.high, (same.nodes_same (g.B.Bindings.bounds c.args.b.now) c.args.x.now (text.Call c.in-Call.name 0 c.as_slice.result.now) bound.node_limit (same.same_call c.in-Call.name c.in-Call.field-1 c.in-Call.arguments c.as_slice.result.now c.args.x.now c.as_slice.ensures c.in-Call.is) c.requires.few)))))))

pub translate-returns-in-Call-clause-means : goal.translate-returns-in-Call-clause-means
translate-returns-in-Call-clause-means g t c = same.means_same c.call_form.result (g.B.Bindings.widths c.args.b.now) (g.B.Bindings.env c.args.b.now) c.args.n c.args.x.now (text.Call c.in-Call.name 0 c.as_slice.result.now) (same.same_call c.in-Call.name c.in-Call.field-1 c.in-Call.arguments c.as_slice.result.now c.args.x.now c.as_slice.ensures c.in-Call.is) c.call_form.ensures.means

pub translate-returns-in-Call-clause-bounded : goal.translate-returns-in-Call-clause-bounded
translate-returns-in-Call-clause-bounded g t c = same.bounded_same c.call_form.result (g.B.Bindings.bounds c.args.b.now) bound.room c.args.x.now (text.Call c.in-Call.name 0 c.as_slice.result.now) (same.same_call c.in-Call.name c.in-Call.field-1 c.in-Call.arguments c.as_slice.result.now c.args.x.now c.as_slice.ensures c.in-Call.is) c.call_form.ensures.bounded

pub translate-tie_form-requires : goal.translate-tie_form-requires
translate-tie_form-requires g t c κs within = ((search (rules, the_lemmas)), ((search (rules, the_lemmas)), (c.requires.right, ((same.sized_same (g.B.Bindings.widths c.args.b.now) c.args.x.now (text.Tie c.in-Tie.word 0 c.as_slice-in-Tie.result.now) (same.same_tie c.in-Tie.word c.in-Tie.field-1 c.in-Tie.arguments c.as_slice-in-Tie.result.now c.args.x.now c.as_slice-in-Tie.ensures c.in-Tie.is) c.requires.sized), ((same.size_same (g.B.Bindings.widths c.args.b.now) c.args.x.now (text.Tie c.in-Tie.word 0 c.as_slice-in-Tie.result.now) c.args.n (same.same_tie c.in-Tie.word c.in-Tie.field-1 c.in-Tie.arguments c.as_slice-in-Tie.result.now c.args.x.now c.as_slice-in-Tie.ensures c.in-Tie.is) c.requires.low), (c.requires.high, (same.nodes_same (g.B.Bindings.bounds c.args.b.now) c.args.x.now (text.Tie c.in-Tie.word 0 c.as_slice-in-Tie.result.now) bound.node_limit (same.same_tie c.in-Tie.word c.in-Tie.field-1 c.in-Tie.arguments c.as_slice-in-Tie.result.now c.args.x.now c.as_slice-in-Tie.ensures c.in-Tie.is) c.requires.few)))))))

pub translate-returns-in-Tie-clause-means : goal.translate-returns-in-Tie-clause-means
translate-returns-in-Tie-clause-means g t c = same.means_same c.tie_form.result (g.B.Bindings.widths c.args.b.now) (g.B.Bindings.env c.args.b.now) c.args.n c.args.x.now (text.Tie c.in-Tie.word 0 c.as_slice-in-Tie.result.now) (same.same_tie c.in-Tie.word c.in-Tie.field-1 c.in-Tie.arguments c.as_slice-in-Tie.result.now c.args.x.now c.as_slice-in-Tie.ensures c.in-Tie.is) c.tie_form.ensures.means

pub translate-returns-in-Tie-clause-bounded : goal.translate-returns-in-Tie-clause-bounded
translate-returns-in-Tie-clause-bounded g t c = same.bounded_same c.tie_form.result (g.B.Bindings.bounds c.args.b.now) bound.room c.args.x.now (text.Tie c.in-Tie.word 0 c.as_slice-in-Tie.result.now) (same.same_tie c.in-Tie.word c.in-Tie.field-1 c.in-Tie.arguments c.as_slice-in-Tie.result.now c.args.x.now c.as_slice-in-Tie.ensures c.in-Tie.is) c.tie_form.ensures.bounded

pub translate-concat_form-requires : goal.translate-concat_form-requires
translate-concat_form-requires g t c κs within = ((search (rules, the_lemmas)), ((search (rules, the_lemmas)), (c.requires.right, ((same.sized_same (g.B.Bindings.widths c.args.b.now) c.args.x.now (text.Concat 0 c.as_slice-in-Concat.result.now) (same.same_concat c.in-Concat.field-0 c.in-Concat.parts c.as_slice-in-Concat.result.now c.args.x.now c.as_slice-in-Concat.ensures c.in-Concat.is) c.requires.sized), ((same.size_same (g.B.Bindings.widths c.args.b.now) c.args.x.now (text.Concat 0 c.as_slice-in-Concat.result.now) c.args.n (same.same_concat c.in-Concat.field-0 c.in-Concat.parts c.as_slice-in-Concat.result.now c.args.x.now c.as_slice-in-Concat.ensures c.in-Concat.is) c.requires.low), (c.requires.high, (same.nodes_same (g.B.Bindings.bounds c.args.b.now) c.args.x.now (text.Concat 0 c.as_slice-in-Concat.result.now) bound.node_limit (same.same_concat c.in-Concat.field-0 c.in-Concat.parts c.as_slice-in-Concat.result.now c.args.x.now c.as_slice-in-Concat.ensures c.in-Concat.is) c.requires.few)))))))

pub translate-returns-in-Concat-clause-means : goal.translate-returns-in-Concat-clause-means
translate-returns-in-Concat-clause-means g t c = same.means_same c.concat_form.result (g.B.Bindings.widths c.args.b.now) (g.B.Bindings.env c.args.b.now) c.args.n c.args.x.now (text.Concat 0 c.as_slice-in-Concat.result.now) (same.same_concat c.in-Concat.field-0 c.in-Concat.parts c.as_slice-in-Concat.result.now c.args.x.now c.as_slice-in-Concat.ensures c.in-Concat.is) c.concat_form.ensures.means

pub translate-returns-in-Concat-clause-bounded : goal.translate-returns-in-Concat-clause-bounded
translate-returns-in-Concat-clause-bounded g t c = same.bounded_same c.concat_form.result (g.B.Bindings.bounds c.args.b.now) bound.room c.args.x.now (text.Concat 0 c.as_slice-in-Concat.result.now) (same.same_concat c.in-Concat.field-0 c.in-Concat.parts c.as_slice-in-Concat.result.now c.args.x.now c.as_slice-in-Concat.ensures c.in-Concat.is) c.concat_form.ensures.bounded

pub translate-repeat_form-requires : goal.translate-repeat_form-requires
translate-repeat_form-requires g t c κs within = ((search (rules, the_lemmas)), ((search (rules, the_lemmas)), (c.requires.right, ((same.sized_same (g.B.Bindings.widths c.args.b.now) c.args.x.now (text.Repeat 0 c.in-Repeat.count 0 c.get-in-Repeat.result.now) (same.same_repeat c.in-Repeat.field-0 c.in-Repeat.count c.in-Repeat.field-2 c.in-Repeat.part c.get-in-Repeat.result.now c.args.x.now c.get-in-Repeat.ensures c.in-Repeat.is) c.requires.sized), ((same.size_same (g.B.Bindings.widths c.args.b.now) c.args.x.now (text.Repeat 0 c.in-Repeat.count 0 c.get-in-Repeat.result.now) c.args.n (same.same_repeat c.in-Repeat.field-0 c.in-Repeat.count c.in-Repeat.field-2 c.in-Repeat.part c.get-in-Repeat.result.now c.args.x.now c.get-in-Repeat.ensures c.in-Repeat.is) c.requires.low), (c.requires.high, (same.nodes_same (g.B.Bindings.bounds c.args.b.now) c.args.x.now (text.Repeat 0 c.in-Repeat.count 0 c.get-in-Repeat.result.now) bound.node_limit (same.same_repeat c.in-Repeat.field-0 c.in-Repeat.count c.in-Repeat.field-2 c.in-Repeat.part c.get-in-Repeat.result.now c.args.x.now c.get-in-Repeat.ensures c.in-Repeat.is) c.requires.few)))))))

pub translate-returns-in-Repeat-clause-means : goal.translate-returns-in-Repeat-clause-means
translate-returns-in-Repeat-clause-means g t c = same.means_same c.repeat_form.result (g.B.Bindings.widths c.args.b.now) (g.B.Bindings.env c.args.b.now) c.args.n c.args.x.now (text.Repeat 0 c.in-Repeat.count 0 c.get-in-Repeat.result.now) (same.same_repeat c.in-Repeat.field-0 c.in-Repeat.count c.in-Repeat.field-2 c.in-Repeat.part c.get-in-Repeat.result.now c.args.x.now c.get-in-Repeat.ensures c.in-Repeat.is) c.repeat_form.ensures.means

pub translate-returns-in-Repeat-clause-bounded : goal.translate-returns-in-Repeat-clause-bounded
translate-returns-in-Repeat-clause-bounded g t c = same.bounded_same c.repeat_form.result (g.B.Bindings.bounds c.args.b.now) bound.room c.args.x.now (text.Repeat 0 c.in-Repeat.count 0 c.get-in-Repeat.result.now) (same.same_repeat c.in-Repeat.field-0 c.in-Repeat.count c.in-Repeat.field-2 c.in-Repeat.part c.get-in-Repeat.result.now c.args.x.now c.get-in-Repeat.ensures c.in-Repeat.is) c.repeat_form.ensures.bounded

pub translate-unary_form-requires : goal.translate-unary_form-requires
translate-unary_form-requires g t c κs within = ((search (rules, the_lemmas)), ((search (rules, the_lemmas)), (c.requires.right, ((same.sized_same (g.B.Bindings.widths c.args.b.now) c.args.x.now (text.Unary c.in-Unary.op 0 c.get-in-Unary.result.now) (same.same_unary c.in-Unary.op c.in-Unary.field-1 c.in-Unary.operand c.get-in-Unary.result.now c.args.x.now c.get-in-Unary.ensures c.in-Unary.is) c.requires.sized), ((same.size_same (g.B.Bindings.widths c.args.b.now) c.args.x.now (text.Unary c.in-Unary.op 0 c.get-in-Unary.result.now) c.args.n (same.same_unary c.in-Unary.op c.in-Unary.field-1 c.in-Unary.operand c.get-in-Unary.result.now c.args.x.now c.get-in-Unary.ensures c.in-Unary.is) c.requires.low), (c.requires.high, (same.nodes_same (g.B.Bindings.bounds c.args.b.now) c.args.x.now (text.Unary c.in-Unary.op 0 c.get-in-Unary.result.now) bound.node_limit (same.same_unary c.in-Unary.op c.in-Unary.field-1 c.in-Unary.operand c.get-in-Unary.result.now c.args.x.now c.get-in-Unary.ensures c.in-Unary.is) c.requires.few)))))))

pub translate-returns-in-Unary-clause-means : goal.translate-returns-in-Unary-clause-means
translate-returns-in-Unary-clause-means g t c = same.means_same c.unary_form.result (g.B.Bindings.widths c.args.b.now) (g.B.Bindings.env c.args.b.now) c.args.n c.args.x.now (text.Unary c.in-Unary.op 0 c.get-in-Unary.result.now) (same.same_unary c.in-Unary.op c.in-Unary.field-1 c.in-Unary.operand c.get-in-Unary.result.now c.args.x.now c.get-in-Unary.ensures c.in-Unary.is) c.unary_form.ensures.means

pub translate-returns-in-Unary-clause-bounded : goal.translate-returns-in-Unary-clause-bounded
translate-returns-in-Unary-clause-bounded g t c = same.bounded_same c.unary_form.result (g.B.Bindings.bounds c.args.b.now) bound.room c.args.x.now (text.Unary c.in-Unary.op 0 c.get-in-Unary.result.now) (same.same_unary c.in-Unary.op c.in-Unary.field-1 c.in-Unary.operand c.get-in-Unary.result.now c.args.x.now c.get-in-Unary.ensures c.in-Unary.is) c.unary_form.ensures.bounded

pub translate-binary_form-requires : goal.translate-binary_form-requires
translate-binary_form-requires g t c κs within = ((search (rules, the_lemmas)), ((search (rules, the_lemmas)), (c.requires.right, ((same.sized_same (g.B.Bindings.widths c.args.b.now) c.args.x.now (text.Binary c.in-Binary.operator c.get-in-Binary.result.now c.get-in-Binary-2.result.now) (same.same_binary c.in-Binary.operator c.in-Binary.left c.in-Binary.right c.get-in-Binary.result.now c.get-in-Binary-2.result.now c.args.x.now c.get-in-Binary.ensures c.get-in-Binary-2.ensures c.in-Binary.is) c.requires.sized), ((same.size_same (g.B.Bindings.widths c.args.b.now) c.args.x.now (text.Binary c.in-Binary.operator c.get-in-Binary.result.now c.get-in-Binary-2.result.now) c.args.n (same.same_binary c.in-Binary.operator c.in-Binary.left c.in-Binary.right c.get-in-Binary.result.now c.get-in-Binary-2.result.now c.args.x.now c.get-in-Binary.ensures c.get-in-Binary-2.ensures c.in-Binary.is) c.requires.low), (c.requires.high, (same.nodes_same (g.B.Bindings.bounds c.args.b.now) c.args.x.now (text.Binary c.in-Binary.operator c.get-in-Binary.result.now c.get-in-Binary-2.result.now) bound.node_limit (same.same_binary c.in-Binary.operator c.in-Binary.left c.in-Binary.right c.get-in-Binary.result.now c.get-in-Binary-2.result.now c.args.x.now c.get-in-Binary.ensures c.get-in-Binary-2.ensures c.in-Binary.is) c.requires.few)))))))

pub translate-returns-in-Binary-clause-means : goal.translate-returns-in-Binary-clause-means
translate-returns-in-Binary-clause-means g t c = same.means_same c.binary_form.result (g.B.Bindings.widths c.args.b.now) (g.B.Bindings.env c.args.b.now) c.args.n c.args.x.now (text.Binary c.in-Binary.operator c.get-in-Binary.result.now c.get-in-Binary-2.result.now) (same.same_binary c.in-Binary.operator c.in-Binary.left c.in-Binary.right c.get-in-Binary.result.now c.get-in-Binary-2.result.now c.args.x.now c.get-in-Binary.ensures c.get-in-Binary-2.ensures c.in-Binary.is) c.binary_form.ensures.means

pub translate-returns-in-Binary-clause-bounded : goal.translate-returns-in-Binary-clause-bounded
translate-returns-in-Binary-clause-bounded g t c = same.bounded_same c.binary_form.result (g.B.Bindings.bounds c.args.b.now) bound.room c.args.x.now (text.Binary c.in-Binary.operator c.get-in-Binary.result.now c.get-in-Binary-2.result.now) (same.same_binary c.in-Binary.operator c.in-Binary.left c.in-Binary.right c.get-in-Binary.result.now c.get-in-Binary-2.result.now c.args.x.now c.get-in-Binary.ensures c.get-in-Binary-2.ensures c.in-Binary.is) c.binary_form.ensures.bounded

pub translate-conditional_form-requires : goal.translate-conditional_form-requires
translate-conditional_form-requires g t c κs within = ((search (rules, the_lemmas)), ((search (rules, the_lemmas)), (c.requires.right, ((same.sized_same (g.B.Bindings.widths c.args.b.now) c.args.x.now (text.Conditional c.get-in-Conditional.result.now c.get-in-Conditional-2.result.now c.get-in-Conditional-3.result.now) (same.same_conditional c.in-Conditional.condition c.in-Conditional.met c.in-Conditional.unmet c.get-in-Conditional.result.now c.get-in-Conditional-2.result.now c.get-in-Conditional-3.result.now c.args.x.now c.get-in-Conditional.ensures c.get-in-Conditional-2.ensures c.get-in-Conditional-3.ensures c.in-Conditional.is) c.requires.sized), ((same.size_same (g.B.Bindings.widths c.args.b.now) c.args.x.now (text.Conditional c.get-in-Conditional.result.now c.get-in-Conditional-2.result.now c.get-in-Conditional-3.result.now) c.args.n (same.same_conditional c.in-Conditional.condition c.in-Conditional.met c.in-Conditional.unmet c.get-in-Conditional.result.now c.get-in-Conditional-2.result.now c.get-in-Conditional-3.result.now c.args.x.now c.get-in-Conditional.ensures c.get-in-Conditional-2.ensures c.get-in-Conditional-3.ensures c.in-Conditional.is) c.requires.low), (c.requires.high, (same.nodes_same (g.B.Bindings.bounds c.args.b.now) c.args.x.now (text.Conditional c.get-in-Conditional.result.now c.get-in-Conditional-2.result.now c.get-in-Conditional-3.result.now) bound.node_limit (same.same_conditional c.in-Conditional.condition c.in-Conditional.met c.in-Conditional.unmet c.get-in-Conditional.result.now c.get-in-Conditional-2.result.now c.get-in-Conditional-3.result.now c.args.x.now c.get-in-Conditional.ensures c.get-in-Conditional-2.ensures c.get-in-Conditional-3.ensures c.in-Conditional.is) c.requires.few)))))))

pub translate-returns-in-Conditional-clause-means : goal.translate-returns-in-Conditional-clause-means
translate-returns-in-Conditional-clause-means g t c = same.means_same c.conditional_form.result (g.B.Bindings.widths c.args.b.now) (g.B.Bindings.env c.args.b.now) c.args.n c.args.x.now (text.Conditional c.get-in-Conditional.result.now c.get-in-Conditional-2.result.now c.get-in-Conditional-3.result.now) (same.same_conditional c.in-Conditional.condition c.in-Conditional.met c.in-Conditional.unmet c.get-in-Conditional.result.now c.get-in-Conditional-2.result.now c.get-in-Conditional-3.result.now c.args.x.now c.get-in-Conditional.ensures c.get-in-Conditional-2.ensures c.get-in-Conditional-3.ensures c.in-Conditional.is) c.conditional_form.ensures.means

pub translate-returns-in-Conditional-clause-bounded : goal.translate-returns-in-Conditional-clause-bounded
translate-returns-in-Conditional-clause-bounded g t c = same.bounded_same c.conditional_form.result (g.B.Bindings.bounds c.args.b.now) bound.room c.args.x.now (text.Conditional c.get-in-Conditional.result.now c.get-in-Conditional-2.result.now c.get-in-Conditional-3.result.now) (same.same_conditional c.in-Conditional.condition c.in-Conditional.met c.in-Conditional.unmet c.get-in-Conditional.result.now c.get-in-Conditional-2.result.now c.get-in-Conditional-3.result.now c.args.x.now c.get-in-Conditional.ensures c.get-in-Conditional-2.ensures c.get-in-Conditional-3.ensures c.in-Conditional.is) c.conditional_form.ensures.bounded

pub translate-translate-requires : goal.translate-translate-requires
translate-translate-requires g t c κs within = ((search (rules, the_lemmas)), ((search (rules, the_lemmas)), (c.requires.right, ((ready.paren_known (g.B.Bindings.widths c.args.b.now) c.in-Paren.field-0 c.get-in-Paren.result.now (same.sized_same (g.B.Bindings.widths c.args.b.now) c.args.x.now (text.Paren c.in-Paren.field-0 c.get-in-Paren.result.now) (same.same c.args.x.now (text.Paren c.in-Paren.field-0 c.get-in-Paren.result.now) (c.in-Paren.is ∙ ap (text.Paren c.in-Paren.field-0) (sym c.get-in-Paren.ensures))) c.requires.sized)), ((ready.paren_low (g.B.Bindings.widths c.args.b.now) c.in-Paren.field-0 c.get-in-Paren.result.now c.args.n (same.size_same (g.B.Bindings.widths c.args.b.now) c.args.x.now (text.Paren c.in-Paren.field-0 c.get-in-Paren.result.now) c.args.n (same.same c.args.x.now (text.Paren c.in-Paren.field-0 c.get-in-Paren.result.now) (c.in-Paren.is ∙ ap (text.Paren c.in-Paren.field-0) (sym c.get-in-Paren.ensures))) c.requires.low)), (c.requires.high, (ready.paren_few (g.B.Bindings.bounds c.args.b.now) c.in-Paren.field-0 c.get-in-Paren.result.now bound.node_limit (same.nodes_same (g.B.Bindings.bounds c.args.b.now) c.args.x.now (text.Paren c.in-Paren.field-0 c.get-in-Paren.result.now) bound.node_limit (same.same c.args.x.now (text.Paren c.in-Paren.field-0 c.get-in-Paren.result.now) (c.in-Paren.is ∙ ap (text.Paren c.in-Paren.field-0) (sym c.get-in-Paren.ensures))) c.requires.few))))))))

pub translate-returns-in-Paren-clause-means : goal.translate-returns-in-Paren-clause-means
translate-returns-in-Paren-clause-means g t c = same.means_same c.translate.result (g.B.Bindings.widths c.args.b.now) (g.B.Bindings.env c.args.b.now) c.args.n c.args.x.now (text.Paren c.in-Paren.field-0 c.get-in-Paren.result.now) (same.same c.args.x.now (text.Paren c.in-Paren.field-0 c.get-in-Paren.result.now) (c.in-Paren.is ∙ ap (text.Paren c.in-Paren.field-0) (sym c.get-in-Paren.ensures))) (form.meant c.translate.result _ _ (form.paren_form (g.B.Bindings.widths c.args.b.now) (g.B.Bindings.env c.args.b.now) c.args.n c.in-Paren.field-0 c.get-in-Paren.result.now) c.translate.ensures.means)

pub translate-returns-in-Paren-clause-bounded : goal.translate-returns-in-Paren-clause-bounded
translate-returns-in-Paren-clause-bounded g t c = same.bounded_same c.translate.result (g.B.Bindings.bounds c.args.b.now) bound.room c.args.x.now (text.Paren c.in-Paren.field-0 c.get-in-Paren.result.now) (same.same c.args.x.now (text.Paren c.in-Paren.field-0 c.get-in-Paren.result.now) (c.in-Paren.is ∙ ap (text.Paren c.in-Paren.field-0) (sym c.get-in-Paren.ensures))) (formed.paren_bounded c.translate.result (g.B.Bindings.bounds c.args.b.now) c.in-Paren.field-0 c.get-in-Paren.result.now c.translate.ensures.bounded)

pub unary_form-own_size-requires : goal.unary_form-own_size-requires
unary_form-own_size-requires g t c = (unary_part (g.B.Bindings.widths c.args.b.now) c.args.op c.args.operand.now c.requires.sized)

pub unary_form-translate-requires : goal.unary_form-translate-requires
unary_form-translate-requires g t c κs within = ((search (rules, the_lemmas)), ((search (rules, the_lemmas)), (c.requires.right, ((unary_part (g.B.Bindings.widths c.args.b.now) c.args.op c.args.operand.now c.requires.sized), ((ready.unary_low (g.B.Bindings.widths c.args.b.now) c.args.op c.args.operand.now c.args.n c.own_size.result c.side-width.result c.own_size.ensures.is c.side-width.ensures c.requires.low), ((ready.unary_high c.args.op c.args.n c.own_size.result c.side-width.result c.side-width.ensures c.own_size.ensures.high c.requires.high), (ready.unary_few (g.B.Bindings.bounds c.args.b.now) c.args.op c.args.operand.now bound.node_limit c.requires.few)))))))

pub unary_form-unary-requires-clause-fits : goal.unary_form-unary-requires-clause-fits
unary_form-unary-requires-clause-fits g t c = side_fit_from c.args.op c.args.n c.own_size.result (typed.meaning c.in_ok-operand.operand).width (ap (λ (m : Typed). m.width) c.in_ok-operand.ensures.means ∙ c.side-width.ensures)

pub unary_form-unary-requires-clause-low : goal.unary_form-unary-requires-clause-low
unary_form-unary-requires-clause-low g t c = ready.some_size (g.B.Bindings.widths c.args.b.now) (text.Unary c.args.op 0 c.args.operand.now) c.args.n c.requires.sized c.requires.low

pub unary_form-unary-requires-clause-limit : goal.unary_form-unary-requires-clause-limit
unary_form-unary-requires-clause-limit g t c = ready.size_fits (typed.size c.in_ok-operand.operand) 200 (ready.within_limit (g.B.Bindings.bounds c.args.b.now).widths bound.room (bound.nodes_of (g.B.Bindings.bounds c.args.b.now) c.args.operand.now) (λ k. bound.reads_of (g.B.Bindings.bounds c.args.b.now) k c.args.operand.now) c.in_ok-operand.operand c.in_ok-operand.ensures.bounded (ready.unary_few (g.B.Bindings.bounds c.args.b.now) c.args.op c.args.operand.now bound.node_limit c.requires.few)) (omega arith)

pub unary_form-returns-clause-means : goal.unary_form-returns-clause-means
unary_form-returns-clause-means g t c = form.meant c.unary.result _ _ (form.unary_form (g.B.Bindings.widths c.args.b.now) (g.B.Bindings.env c.args.b.now) c.args.n c.args.op c.args.operand.now c.own_size.result c.side-width.result (typed.meaning c.in_ok-operand.operand) c.own_size.ensures.is c.side-width.ensures c.in_ok-operand.ensures.means) c.unary.ensures.means

pub unary_form-returns-clause-bounded : goal.unary_form-returns-clause-bounded
unary_form-returns-clause-bounded g t c = formed.unary_bounded c.unary.result (g.B.Bindings.bounds c.args.b.now) c.args.op c.args.operand.now c.in_ok-operand.operand c.in_ok-operand.ensures.bounded c.unary.ensures.inputs c.unary.ensures.size

pub binary_form-own_size-requires : goal.binary_form-own_size-requires
binary_form-own_size-requires g t c = (binary_parts (g.B.Bindings.widths c.args.b.now) c.args.operator c.args.left.now c.args.right.now c.requires.sized).first

pub binary_form-own_size-requires-2 : goal.binary_form-own_size-requires-2
binary_form-own_size-requires-2 g t c = (binary_parts (g.B.Bindings.widths c.args.b.now) c.args.operator c.args.left.now c.args.right.now c.requires.sized).second

pub binary_form-sides-left_width-requires-clause-fits : goal.binary_form-sides-left_width-requires-clause-fits
binary_form-sides-left_width-requires-clause-fits g t c = ready.binary_low (g.B.Bindings.widths c.args.b.now) c.args.operator c.args.left.now c.args.right.now c.args.n c.own_size.result c.own_size-2.result c.own_size.ensures.is c.own_size-2.ensures.is c.requires.low

pub binary_form-translate-requires : goal.binary_form-translate-requires
binary_form-translate-requires g t c κs within = ((search (rules, the_lemmas)), ((search (rules, the_lemmas)), (c.requires.right, ((binary_parts (g.B.Bindings.widths c.args.b.now) c.args.operator c.args.left.now c.args.right.now c.requires.sized).first, ((subst (λ k. k ≤ c.sides-left_width.result.0) c.own_size.ensures.is c.sides-left_width.ensures.left_low), (c.sides-left_width.ensures.left_high, (ready.binary_few (g.B.Bindings.bounds c.args.b.now) c.args.operator c.args.left.now c.args.right.now bound.node_limit c.requires.few).first))))))

pub binary_form-translate-requires-2 : goal.binary_form-translate-requires-2
binary_form-translate-requires-2 g t c κs within = ((search (rules, the_lemmas)), ((search (rules, the_lemmas)), (c.requires.right, ((binary_parts (g.B.Bindings.widths c.args.b.now) c.args.operator c.args.left.now c.args.right.now c.requires.sized).second, ((subst (λ k. k ≤ c.sides-left_width.result.1) c.own_size-2.ensures.is c.sides-left_width.ensures.right_low), (c.sides-left_width.ensures.right_high, (ready.binary_few (g.B.Bindings.bounds c.args.b.now) c.args.operator c.args.left.now c.args.right.now bound.node_limit c.requires.few).second))))))

pub binary_form-binary-requires-clause-fits : goal.binary_form-binary-requires-clause-fits
binary_form-binary-requires-clause-fits g t c = ready.fit_sides c.args.operator.op c.args.n c.own_size.result c.own_size-2.result c.sides-left_width.result.0 c.sides-left_width.result.1 (typed.meaning c.in_ok-left.left) (typed.meaning c.in_ok-right.right) c.sides-left_width.ensures.left c.sides-left_width.ensures.right (ap (λ (m : Typed). m.width) c.in_ok-left.ensures.means) (ap (λ (m : Typed). m.width) c.in_ok-right.ensures.means)

pub binary_form-binary-requires-clause-low : goal.binary_form-binary-requires-clause-low
binary_form-binary-requires-clause-low g t c = ready.some_size (g.B.Bindings.widths c.args.b.now) (text.Binary c.args.operator c.args.left.now c.args.right.now) c.args.n c.requires.sized c.requires.low

pub binary_form-binary-requires-clause-limit : goal.binary_form-binary-requires-clause-limit
binary_form-binary-requires-clause-limit g t c = ready.both_limit (g.B.Bindings.bounds c.args.b.now).widths (bound.nodes_of (g.B.Bindings.bounds c.args.b.now) c.args.left.now) (λ k. bound.reads_of (g.B.Bindings.bounds c.args.b.now) k c.args.left.now) (bound.nodes_of (g.B.Bindings.bounds c.args.b.now) c.args.right.now) (λ k. bound.reads_of (g.B.Bindings.bounds c.args.b.now) k c.args.right.now) c.in_ok-left.left c.in_ok-right.right c.in_ok-left.ensures.bounded c.in_ok-right.ensures.bounded (ready.binary_few (g.B.Bindings.bounds c.args.b.now) c.args.operator c.args.left.now c.args.right.now bound.node_limit c.requires.few).together

pub binary_form-returns-clause-means : goal.binary_form-returns-clause-means
binary_form-returns-clause-means g t c = form.meant c.binary.result _ _ (form.binary_form (g.B.Bindings.widths c.args.b.now) (g.B.Bindings.env c.args.b.now) c.args.n c.args.operator c.args.left.now c.args.right.now c.own_size.result c.own_size-2.result c.sides-left_width.result.0 c.sides-left_width.result.1 (typed.meaning c.in_ok-left.left) (typed.meaning c.in_ok-right.right) c.own_size.ensures.is c.own_size-2.ensures.is c.sides-left_width.ensures.left c.sides-left_width.ensures.right c.in_ok-left.ensures.means c.in_ok-right.ensures.means) c.binary.ensures.means

pub binary_form-returns-clause-bounded : goal.binary_form-returns-clause-bounded
binary_form-returns-clause-bounded g t c = formed.binary_bounded c.binary.result (g.B.Bindings.bounds c.args.b.now) c.args.operator c.args.left.now c.args.right.now c.in_ok-left.left c.in_ok-right.right c.in_ok-left.ensures.bounded c.in_ok-right.ensures.bounded c.binary.ensures.inputs c.binary.ensures.size

pub conditional_form-own_size-requires : goal.conditional_form-own_size-requires
conditional_form-own_size-requires g t c = (condition_part (g.B.Bindings.widths c.args.b.now) c.args.condition.now c.args.met.now c.args.unmet.now c.requires.sized)

pub conditional_form-translate-requires : goal.conditional_form-translate-requires
conditional_form-translate-requires g t c κs within = ((search (rules, the_lemmas)), ((search (rules, the_lemmas)), (c.requires.right, ((condition_part (g.B.Bindings.widths c.args.b.now) c.args.condition.now c.args.met.now c.args.unmet.now c.requires.sized), ((ready.at_own c.own_size.result (size (g.B.Bindings.widths c.args.b.now) c.args.condition.now) c.own_size.ensures.is), (c.own_size.ensures.high, (ready.condition_few (g.B.Bindings.bounds c.args.b.now) c.args.condition.now c.args.met.now c.args.unmet.now bound.node_limit c.requires.few).first))))))

pub conditional_form-translate-requires-2 : goal.conditional_form-translate-requires-2
conditional_form-translate-requires-2 g t c κs within = ((search (rules, the_lemmas)), ((search (rules, the_lemmas)), (c.requires.right, ((choice_parts (g.B.Bindings.widths c.args.b.now) c.args.condition.now c.args.met.now c.args.unmet.now c.requires.sized).first, ((ready.choice_low (g.B.Bindings.widths c.args.b.now) c.args.condition.now c.args.met.now c.args.unmet.now c.args.n c.requires.low).first, (c.requires.high, (ready.condition_few (g.B.Bindings.bounds c.args.b.now) c.args.condition.now c.args.met.now c.args.unmet.now bound.node_limit c.requires.few).second))))))

pub conditional_form-translate-requires-3 : goal.conditional_form-translate-requires-3
conditional_form-translate-requires-3 g t c κs within = ((search (rules, the_lemmas)), ((search (rules, the_lemmas)), (c.requires.right, ((choice_parts (g.B.Bindings.widths c.args.b.now) c.args.condition.now c.args.met.now c.args.unmet.now c.requires.sized).second, ((ready.choice_low (g.B.Bindings.widths c.args.b.now) c.args.condition.now c.args.met.now c.args.unmet.now c.args.n c.requires.low).second, (c.requires.high, (ready.condition_few (g.B.Bindings.bounds c.args.b.now) c.args.condition.now c.args.met.now c.args.unmet.now bound.node_limit c.requires.few).third))))))

pub conditional_form-choose-requires-clause-widths : goal.conditional_form-choose-requires-clause-widths
conditional_form-choose-requires-clause-widths g t c = ap (λ (m : Typed). m.width) c.in_ok-met.ensures.means ∙ sym (ap (λ (m : Typed). m.width) c.in_ok-unmet.ensures.means)

pub conditional_form-choose-requires-clause-limit : goal.conditional_form-choose-requires-clause-limit
conditional_form-choose-requires-clause-limit g t c = ready.three_limit (g.B.Bindings.bounds c.args.b.now).widths (bound.nodes_of (g.B.Bindings.bounds c.args.b.now) c.args.condition.now) (λ k. bound.reads_of (g.B.Bindings.bounds c.args.b.now) k c.args.condition.now) (bound.nodes_of (g.B.Bindings.bounds c.args.b.now) c.args.met.now) (λ k. bound.reads_of (g.B.Bindings.bounds c.args.b.now) k c.args.met.now) (bound.nodes_of (g.B.Bindings.bounds c.args.b.now) c.args.unmet.now) (λ k. bound.reads_of (g.B.Bindings.bounds c.args.b.now) k c.args.unmet.now) c.in_ok-condition.condition c.in_ok-met.met c.in_ok-unmet.unmet c.in_ok-condition.ensures.bounded c.in_ok-met.ensures.bounded c.in_ok-unmet.ensures.bounded (ready.condition_few (g.B.Bindings.bounds c.args.b.now) c.args.condition.now c.args.met.now c.args.unmet.now bound.node_limit c.requires.few).together

pub conditional_form-returns-clause-means : goal.conditional_form-returns-clause-means
conditional_form-returns-clause-means g t c = form.meant c.choose.result _ _ (form.conditional_form (g.B.Bindings.widths c.args.b.now) (g.B.Bindings.env c.args.b.now) c.args.n c.args.condition.now c.args.met.now c.args.unmet.now c.own_size.result (typed.meaning c.in_ok-condition.condition) (typed.meaning c.in_ok-met.met) (typed.meaning c.in_ok-unmet.unmet) c.own_size.ensures.is c.in_ok-condition.ensures.means c.in_ok-met.ensures.means c.in_ok-unmet.ensures.means) c.choose.ensures.means

pub conditional_form-returns-clause-bounded : goal.conditional_form-returns-clause-bounded
conditional_form-returns-clause-bounded g t c = formed.conditional_bounded c.choose.result (g.B.Bindings.bounds c.args.b.now) c.args.condition.now c.args.met.now c.args.unmet.now c.in_ok-condition.condition c.in_ok-met.met c.in_ok-unmet.unmet c.in_ok-condition.ensures.bounded c.in_ok-met.ensures.bounded c.in_ok-unmet.ensures.bounded c.choose.ensures.inputs c.choose.ensures.size

pub repeat_form-own_size-requires : goal.repeat_form-own_size-requires
repeat_form-own_size-requires g t c = (repeat_part (g.B.Bindings.widths c.args.b.now) c.args.count.now c.args.part.now c.requires.sized)

pub repeat_form-translate-requires : goal.repeat_form-translate-requires
repeat_form-translate-requires g t c κs within = ((search (rules, the_lemmas)), ((search (rules, the_lemmas)), (c.requires.right, ((repeat_part (g.B.Bindings.widths c.args.b.now) c.args.count.now c.args.part.now c.requires.sized), ((ready.at_own c.own_size.result (size (g.B.Bindings.widths c.args.b.now) c.args.part.now) c.own_size.ensures.is), (c.own_size.ensures.high, (ready.repeat_few (g.B.Bindings.bounds c.args.b.now) c.args.count.now c.args.part.now bound.node_limit c.requires.few)))))))

pub repeat_form-overflow_cast-number : goal.repeat_form-overflow_cast-number
repeat_form-overflow_cast-number g t c = (let is = (c.number.ensures ∙ ap (λ bytes. capped (number bytes)) c.as_slice.ensures) in let high = (ready.repeat_count (g.B.Bindings.widths c.args.b.now) c.args.count.now c.args.part.now c.requires.sized).high in omega (arith, is, high))

pub repeat_form-repeat-requires-clause-some : goal.repeat_form-repeat-requires-clause-some
repeat_form-repeat-requires-clause-some g t c = (let is = (c.number.ensures ∙ ap (λ bytes. capped (number bytes)) c.as_slice.ensures) in let low = (ready.repeat_count (g.B.Bindings.widths c.args.b.now) c.args.count.now c.args.part.now c.requires.sized).low in omega (arith, is, low))

pub repeat_form-repeat-requires-clause-widths : goal.repeat_form-repeat-requires-clause-widths
repeat_form-repeat-requires-clause-widths g t c = (let width = (form.repeat_width (g.B.Bindings.widths c.args.b.now) (g.B.Bindings.env c.args.b.now) c.args.count.now c.args.part.now c.own_size.result c.number.result (typed.meaning c.in_ok-one.one) c.own_size.ensures.is c.in_ok-one.ensures.means (c.number.ensures ∙ ap (λ bytes. capped (number bytes)) c.as_slice.ensures)) in let high = (sized_width (g.B.Bindings.widths c.args.b.now) (text.Repeat 0 c.args.count.now 0 c.args.part.now) c.requires.sized).high in omega (arith, width, high))

pub repeat_form-repeat-requires-clause-limit : goal.repeat_form-repeat-requires-clause-limit
repeat_form-repeat-requires-clause-limit g t c = (let fits = ready.size_fits (typed.size c.in_ok-one.one) 100 (ready.within_limit (g.B.Bindings.bounds c.args.b.now).widths bound.room (bound.nodes_of (g.B.Bindings.bounds c.args.b.now) c.args.part.now) (λ k. bound.reads_of (g.B.Bindings.bounds c.args.b.now) k c.args.part.now) c.in_ok-one.one c.in_ok-one.ensures.bounded (ready.repeat_few (g.B.Bindings.bounds c.args.b.now) c.args.count.now c.args.part.now bound.node_limit c.requires.few)) (omega arith) in omega (arith, fits))

pub repeat_form-widen-requires-clause-low : goal.repeat_form-widen-requires-clause-low
repeat_form-widen-requires-clause-low g t c = (let width = (form.repeat_width (g.B.Bindings.widths c.args.b.now) (g.B.Bindings.env c.args.b.now) c.args.count.now c.args.part.now c.own_size.result c.number.result (typed.meaning c.in_ok-one.one) c.own_size.ensures.is c.in_ok-one.ensures.means (c.number.ensures ∙ ap (λ bytes. capped (number bytes)) c.as_slice.ensures)) in let built = ap (λ (m : Typed). m.width) c.in_ok-all.ensures.means in let low = c.requires.low in omega (arith, width, built, low))

pub repeat_form-widen-requires-clause-some : goal.repeat_form-widen-requires-clause-some
repeat_form-widen-requires-clause-some g t c = ready.some_size (g.B.Bindings.widths c.args.b.now) (text.Repeat 0 c.args.count.now 0 c.args.part.now) c.args.n c.requires.sized c.requires.low

pub repeat_form-widen-requires-clause-limit : goal.repeat_form-widen-requires-clause-limit
repeat_form-widen-requires-clause-limit g t c = (let fits = ready.size_fits (typed.size c.in_ok-one.one) 200 (ready.within_limit (g.B.Bindings.bounds c.args.b.now).widths bound.room (bound.nodes_of (g.B.Bindings.bounds c.args.b.now) c.args.part.now) (λ k. bound.reads_of (g.B.Bindings.bounds c.args.b.now) k c.args.part.now) c.in_ok-one.one c.in_ok-one.ensures.bounded (ready.repeat_few (g.B.Bindings.bounds c.args.b.now) c.args.count.now c.args.part.now bound.node_limit c.requires.few)) (omega arith) in let built = c.in_ok-all.ensures.size in omega (arith, fits, built))

pub repeat_form-returns-clause-means : goal.repeat_form-returns-clause-means
repeat_form-returns-clause-means g t c = form.meant c.widen.result _ _ (form.repeat_form (g.B.Bindings.widths c.args.b.now) (g.B.Bindings.env c.args.b.now) c.args.n c.args.count.now c.args.part.now c.own_size.result c.number.result (typed.meaning c.in_ok-one.one) (typed.meaning c.in_ok-all.all) c.own_size.ensures.is c.in_ok-one.ensures.means (c.number.ensures ∙ ap (λ bytes. capped (number bytes)) c.as_slice.ensures) c.in_ok-all.ensures.means) c.widen.ensures.means

pub repeat_form-returns-clause-bounded : goal.repeat_form-returns-clause-bounded
repeat_form-returns-clause-bounded g t c = formed.repeat_bounded c.widen.result (g.B.Bindings.bounds c.args.b.now) c.args.count.now c.args.part.now c.in_ok-one.one c.in_ok-all.all c.in_ok-one.ensures.bounded c.in_ok-all.ensures.inputs c.in_ok-all.ensures.size c.widen.ensures.inputs c.widen.ensures.size

pub index_form-bit_form-requires-clause-bit : goal.index_form-bit_form-requires-clause-bit
index_form-bit_form-requires-clause-bit g t c = (sym c.is_table.ensures.sized ∙ c.if-not-is_table.true)

pub index_form-bit_form-requires-clause-one : goal.index_form-bit_form-requires-clause-one
index_form-bit_form-requires-clause-one g t c = (sym c.is_table.ensures.counted ∙ c.if-not-is_table.true)

pub index_form-own_size-requires : goal.index_form-own_size-requires
index_form-own_size-requires g t c = (entry_parts (g.B.Bindings.widths c.args.b.now) c.args.name.now c.args.index.now (sym c.is_table.ensures.sized ∙ c.if-not-is_table.false) c.requires.sized).second

pub index_form-translate-requires : goal.index_form-translate-requires
index_form-translate-requires g t c κs within = ((search (rules, the_lemmas)), ((search (rules, the_lemmas)), (c.requires.right, ((entry_parts (g.B.Bindings.widths c.args.b.now) c.args.name.now c.args.index.now (sym c.is_table.ensures.sized ∙ c.if-not-is_table.false) c.requires.sized).second, ((ready.at_own c.own_size.result (size (g.B.Bindings.widths c.args.b.now) c.args.index.now) c.own_size.ensures.is), (c.own_size.ensures.high, (ready.entry_few (g.B.Bindings.bounds c.args.b.now) c.args.name.now c.args.index.now bound.node_limit (sym c.is_table.ensures.counted ∙ c.if-not-is_table.false) c.requires.few)))))))

pub index_form-look_up-requires-clause-table : goal.index_form-look_up-requires-clause-table
index_form-look_up-requires-clause-table g t c = (sym c.is_table.ensures.sized ∙ c.if-not-is_table.false)

pub index_form-look_up-requires-clause-known : goal.index_form-look_up-requires-clause-known
index_form-look_up-requires-clause-known g t c = (entry_parts (g.B.Bindings.widths c.args.b.now) c.args.name.now c.args.index.now (sym c.is_table.ensures.sized ∙ c.if-not-is_table.false) c.requires.sized).first

pub index_form-look_up-requires-clause-limit : goal.index_form-look_up-requires-clause-limit
index_form-look_up-requires-clause-limit g t c = (let fits = ready.size_fits (typed.size c.in_ok-index.index) 560 (ready.within_limit (g.B.Bindings.bounds c.args.b.now).widths bound.room (bound.nodes_of (g.B.Bindings.bounds c.args.b.now) c.args.index.now) (λ k. bound.reads_of (g.B.Bindings.bounds c.args.b.now) k c.args.index.now) c.in_ok-index.index c.in_ok-index.ensures.bounded (ready.entry_few (g.B.Bindings.bounds c.args.b.now) c.args.name.now c.args.index.now bound.node_limit (sym c.is_table.ensures.counted ∙ c.if-not-is_table.false) c.requires.few)) (omega arith) in omega (arith, fits))

pub index_form-widen-requires-clause-low : goal.index_form-widen-requires-clause-low
index_form-widen-requires-clause-low g t c = ready.entry_low (g.B.Bindings.widths c.args.b.now) (g.B.Bindings.env c.args.b.now) c.args.n c.args.name.now c.args.index.now (typed.meaning c.in_ok-index.index) (typed.meaning c.in_ok-entry.entry) c.in_ok-entry.ensures.means (sym c.is_table.ensures.sized ∙ c.if-not-is_table.false) c.requires.low

pub index_form-widen-requires-clause-some : goal.index_form-widen-requires-clause-some
index_form-widen-requires-clause-some g t c = ready.some_size (g.B.Bindings.widths c.args.b.now) (text.Index c.args.name.now c.args.index.now) c.args.n c.requires.sized c.requires.low

pub index_form-widen-requires-clause-limit : goal.index_form-widen-requires-clause-limit
index_form-widen-requires-clause-limit g t c = (let fits = ready.size_fits (typed.size c.in_ok-index.index) 660 (ready.within_limit (g.B.Bindings.bounds c.args.b.now).widths bound.room (bound.nodes_of (g.B.Bindings.bounds c.args.b.now) c.args.index.now) (λ k. bound.reads_of (g.B.Bindings.bounds c.args.b.now) k c.args.index.now) c.in_ok-index.index c.in_ok-index.ensures.bounded (ready.entry_few (g.B.Bindings.bounds c.args.b.now) c.args.name.now c.args.index.now bound.node_limit (sym c.is_table.ensures.counted ∙ c.if-not-is_table.false) c.requires.few)) (omega arith) in let built = c.in_ok-entry.ensures.size in omega (arith, fits, built))

pub index_form-returns-clause-means : goal.index_form-returns-clause-means
index_form-returns-clause-means g t c = form.meant c.widen.result _ _ (form.entry_form (g.B.Bindings.widths c.args.b.now) (g.B.Bindings.env c.args.b.now) c.args.n c.args.name.now c.args.index.now c.own_size.result (typed.meaning c.in_ok-index.index) (typed.meaning c.in_ok-entry.entry) c.own_size.ensures.is c.in_ok-index.ensures.means c.in_ok-entry.ensures.means (sym c.is_table.ensures.sized ∙ c.if-not-is_table.false)) c.widen.ensures.means

pub index_form-returns-clause-bounded : goal.index_form-returns-clause-bounded
index_form-returns-clause-bounded g t c = formed.entry_bounded c.widen.result (g.B.Bindings.bounds c.args.b.now) c.args.name.now c.args.index.now c.in_ok-index.index c.in_ok-entry.entry (sym c.is_table.ensures.counted ∙ c.if-not-is_table.false) c.in_ok-index.ensures.bounded c.in_ok-entry.ensures.inputs c.in_ok-entry.ensures.size c.widen.ensures.inputs c.widen.ensures.size

pub concat_form-own_parts-requires : goal.concat_form-own_parts-requires
concat_form-own_parts-requires g t c κs within = (search (rules, the_lemmas), (search (rules, the_lemmas), (c.requires.right, (concat_parts (g.B.Bindings.widths c.args.b.now) c.args.parts.now c.requires.sized, ready.concat_few (g.B.Bindings.bounds c.args.b.now) c.args.parts.now bound.node_limit c.requires.few))))

pub concat_form-join_all-requires-clause-some : goal.concat_form-join_all-requires-clause-some
concat_form-join_all-requires-clause-some g t c = (let some = ready.concat_some (g.B.Bindings.widths c.args.b.now) (g.B.Bindings.env c.args.b.now) c.args.parts.now c.in_ok-parts.parts.items c.requires.sized c.in_ok-parts.ensures.means in search (rules, some))

pub concat_form-join_all-requires-clause-widths : goal.concat_form-join_all-requires-clause-widths
concat_form-join_all-requires-clause-widths g t c = (let width = ready.concat_width (g.B.Bindings.widths c.args.b.now) (g.B.Bindings.env c.args.b.now) c.args.parts.now (map typed.meaning c.in_ok-parts.parts.items) c.in_ok-parts.ensures.means in let high = (sized_width (g.B.Bindings.widths c.args.b.now) (text.Concat 0 c.args.parts.now) c.requires.sized).high in omega (arith, width, high))

pub concat_form-join_all-requires-clause-limit : goal.concat_form-join_all-requires-clause-limit
concat_form-join_all-requires-clause-limit g t c = (let fits = ready.all_limit (g.B.Bindings.bounds c.args.b.now).widths bound.room (sum (map (bound.nodes_of (g.B.Bindings.bounds c.args.b.now)) c.args.parts.now)) (λ k. sum (map (bound.reads_of (g.B.Bindings.bounds c.args.b.now) k) c.args.parts.now)) c.in_ok-parts.parts.items c.in_ok-parts.ensures.bounded (ready.concat_few (g.B.Bindings.bounds c.args.b.now) c.args.parts.now bound.node_limit c.requires.few) in let many = c.in_ok-parts.parts.ok.0 in omega (arith, fits, many))

pub concat_form-widen-requires-clause-low : goal.concat_form-widen-requires-clause-low
concat_form-widen-requires-clause-low g t c = ready.concat_low (g.B.Bindings.widths c.args.b.now) (g.B.Bindings.env c.args.b.now) c.args.n c.args.parts.now (map typed.meaning c.in_ok-parts.parts.items) (typed.meaning c.in_ok-join_all.field-0) c.in_ok-join_all.ensures.means c.in_ok-parts.ensures.means c.requires.low

pub concat_form-widen-requires-clause-some : goal.concat_form-widen-requires-clause-some
concat_form-widen-requires-clause-some g t c = ready.some_size (g.B.Bindings.widths c.args.b.now) (text.Concat 0 c.args.parts.now) c.args.n c.requires.sized c.requires.low

pub concat_form-widen-requires-clause-limit : goal.concat_form-widen-requires-clause-limit
concat_form-widen-requires-clause-limit g t c = (let fits = ready.all_limit (g.B.Bindings.bounds c.args.b.now).widths bound.room (sum (map (bound.nodes_of (g.B.Bindings.bounds c.args.b.now)) c.args.parts.now)) (λ k. sum (map (bound.reads_of (g.B.Bindings.bounds c.args.b.now) k) c.args.parts.now)) c.in_ok-parts.parts.items c.in_ok-parts.ensures.bounded (ready.concat_few (g.B.Bindings.bounds c.args.b.now) c.args.parts.now bound.node_limit c.requires.few) in let built = c.in_ok-join_all.ensures.made.small in omega (arith, fits, built))

pub concat_form-returns-clause-means : goal.concat_form-returns-clause-means
concat_form-returns-clause-means g t c = form.meant c.widen.result _ _ (form.concat_form (g.B.Bindings.widths c.args.b.now) (g.B.Bindings.env c.args.b.now) c.args.n c.args.parts.now (map typed.meaning c.in_ok-parts.parts.items) (typed.meaning c.in_ok-join_all.field-0) c.in_ok-parts.ensures.means c.in_ok-join_all.ensures.means) c.widen.ensures.means

pub concat_form-returns-clause-bounded : goal.concat_form-returns-clause-bounded
concat_form-returns-clause-bounded g t c = formed.concat_bounded c.widen.result (g.B.Bindings.bounds c.args.b.now) c.args.parts.now c.in_ok-parts.parts.items c.in_ok-join_all.field-0 c.in_ok-parts.ensures.bounded c.in_ok-join_all.ensures.made c.widen.ensures.inputs c.widen.ensures.size

pub tie_form-own_parts-requires : goal.tie_form-own_parts-requires
tie_form-own_parts-requires g t c κs within = (search (rules, the_lemmas), (search (rules, the_lemmas), (c.requires.right, (tie_arguments (g.B.Bindings.widths c.args.b.now) c.args.word.now c.args.arguments.now c.requires.sized, ready.tie_few (g.B.Bindings.bounds c.args.b.now) c.args.word.now c.args.arguments.now bound.node_limit c.requires.few))))

pub tie_form-tie-requires-clause-fits : goal.tie_form-tie-requires-clause-fits
tie_form-tie-requires-clause-fits g t c = tie_fits (g.B.Bindings.widths c.args.b.now) (g.B.Bindings.env c.args.b.now) c.args.word.now c.args.arguments.now (map typed.meaning c.in_ok-arguments.arguments.items) c.requires.sized c.in_ok-arguments.ensures.means

pub tie_form-tie-requires-clause-limit : goal.tie_form-tie-requires-clause-limit
tie_form-tie-requires-clause-limit g t c = (let fits = ready.all_limit (g.B.Bindings.bounds c.args.b.now).widths bound.room (sum (map (bound.nodes_of (g.B.Bindings.bounds c.args.b.now)) c.args.arguments.now)) (λ k. sum (map (bound.reads_of (g.B.Bindings.bounds c.args.b.now) k) c.args.arguments.now)) c.in_ok-arguments.arguments.items c.in_ok-arguments.ensures.bounded (ready.tie_few (g.B.Bindings.bounds c.args.b.now) c.args.word.now c.args.arguments.now bound.node_limit c.requires.few) in omega (arith, fits))

pub tie_form-widen-requires-clause-low : goal.tie_form-widen-requires-clause-low
tie_form-widen-requires-clause-low g t c = ready.tie_low (g.B.Bindings.widths c.args.b.now) (g.B.Bindings.env c.args.b.now) c.args.n c.args.word.now c.args.arguments.now (map typed.meaning c.in_ok-arguments.arguments.items) (typed.meaning c.in_ok-tie.field-0) c.in_ok-tie.ensures.means c.in_ok-arguments.ensures.means c.requires.low

pub tie_form-widen-requires-clause-some : goal.tie_form-widen-requires-clause-some
tie_form-widen-requires-clause-some g t c = ready.some_size (g.B.Bindings.widths c.args.b.now) (text.Tie c.args.word.now 0 c.args.arguments.now) c.args.n c.requires.sized c.requires.low

pub tie_form-widen-requires-clause-limit : goal.tie_form-widen-requires-clause-limit
tie_form-widen-requires-clause-limit g t c = (let fits = ready.all_limit (g.B.Bindings.bounds c.args.b.now).widths bound.room (sum (map (bound.nodes_of (g.B.Bindings.bounds c.args.b.now)) c.args.arguments.now)) (λ k. sum (map (bound.reads_of (g.B.Bindings.bounds c.args.b.now) k) c.args.arguments.now)) c.in_ok-arguments.arguments.items c.in_ok-arguments.ensures.bounded (ready.tie_few (g.B.Bindings.bounds c.args.b.now) c.args.word.now c.args.arguments.now bound.node_limit c.requires.few) in let built = c.in_ok-tie.ensures.made.small in omega (arith, fits, built))

pub tie_form-returns-clause-means : goal.tie_form-returns-clause-means
tie_form-returns-clause-means g t c = form.meant c.widen.result _ _ (form.tie_form (g.B.Bindings.widths c.args.b.now) (g.B.Bindings.env c.args.b.now) c.args.n c.args.word.now c.args.arguments.now (map typed.meaning c.in_ok-arguments.arguments.items) (typed.meaning c.in_ok-tie.field-0) c.in_ok-arguments.ensures.means c.in_ok-tie.ensures.means) c.widen.ensures.means

pub tie_form-returns-clause-bounded : goal.tie_form-returns-clause-bounded
tie_form-returns-clause-bounded g t c = formed.tie_bounded c.widen.result (g.B.Bindings.bounds c.args.b.now) c.args.word.now c.args.arguments.now c.in_ok-arguments.arguments.items c.in_ok-tie.field-0 c.in_ok-arguments.ensures.bounded c.in_ok-tie.ensures.made c.widen.ensures.inputs c.widen.ensures.size

pub call_form-assigned_arguments-requires : goal.call_form-assigned_arguments-requires
call_form-assigned_arguments-requires g t c κs within = (search (rules, the_lemmas), (search (rules, the_lemmas), (c.requires.right, ((call_arguments (g.B.Bindings.widths c.args.b.now) c.args.name.now c.args.arguments.now c.requires.sized).second, (let few = (ready.call_few (g.B.Bindings.bounds c.args.b.now) c.args.name.now c.args.arguments.now bound.node_limit c.requires.few) in omega (arith, few))))))

pub call_form-call-requires-clause-known : goal.call_form-call-requires-clause-known
call_form-call-requires-clause-known g t c = (call_arguments (g.B.Bindings.widths c.args.b.now) c.args.name.now c.args.arguments.now c.requires.sized).first

pub call_form-call-requires-clause-widths : goal.call_form-call-requires-clause-widths
call_form-call-requires-clause-widths g t c = ap widths_of c.in_ok-arguments.ensures.means ∙ lists.argument_widths (g.B.Bindings.env c.args.b.now) ((g.B.Bindings.widths c.args.b.now).parameters c.args.name.now.bytes) (map (meaning (g.B.Bindings.widths c.args.b.now)) c.args.arguments.now) (call_arguments (g.B.Bindings.widths c.args.b.now) c.args.name.now c.args.arguments.now c.requires.sized).second

pub call_form-call-requires-clause-over : goal.call_form-call-requires-clause-over
call_form-call-requires-clause-over g t c = c.in_ok-arguments.ensures.bounded.over

pub call_form-call-requires-clause-few : goal.call_form-call-requires-clause-few
call_form-call-requires-clause-few g t c = ready.call_limit (g.B.Bindings.bounds c.args.b.now) c.args.name.now c.args.arguments.now c.in_ok-arguments.arguments.items c.in_ok-arguments.ensures.bounded c.requires.few

pub call_form-widen-requires-clause-low : goal.call_form-widen-requires-clause-low
call_form-widen-requires-clause-low g t c = ready.call_low (g.B.Bindings.widths c.args.b.now) (g.B.Bindings.env c.args.b.now) c.args.n c.args.name.now c.args.arguments.now (map typed.meaning c.in_ok-arguments.arguments.items) (typed.meaning c.in_ok-call.field-0) c.in_ok-call.ensures.means c.requires.low

pub call_form-widen-requires-clause-some : goal.call_form-widen-requires-clause-some
call_form-widen-requires-clause-some g t c = ready.some_size (g.B.Bindings.widths c.args.b.now) (text.Call c.args.name.now 0 c.args.arguments.now) c.args.n c.requires.sized c.requires.low

pub call_form-widen-requires-clause-limit : goal.call_form-widen-requires-clause-limit
call_form-widen-requires-clause-limit g t c = (let fits = ready.call_limit (g.B.Bindings.bounds c.args.b.now) c.args.name.now c.args.arguments.now c.in_ok-arguments.arguments.items c.in_ok-arguments.ensures.bounded c.requires.few in let built = c.in_ok-call.ensures.bounded.small in omega (arith, fits, built))

pub call_form-returns-clause-means : goal.call_form-returns-clause-means
call_form-returns-clause-means g t c = form.meant c.widen.result _ _ (form.call_form (g.B.Bindings.widths c.args.b.now) (g.B.Bindings.env c.args.b.now) c.args.n c.args.name.now c.args.arguments.now (map typed.meaning c.in_ok-arguments.arguments.items) (typed.meaning c.in_ok-call.field-0) c.in_ok-arguments.ensures.means c.in_ok-call.ensures.means) c.widen.ensures.means

pub call_form-returns-clause-bounded : goal.call_form-returns-clause-bounded
call_form-returns-clause-bounded g t c = formed.call_bounded c.widen.result (g.B.Bindings.bounds c.args.b.now) c.args.name.now c.args.arguments.now c.in_ok-arguments.arguments.items c.in_ok-call.field-0 c.in_ok-arguments.ensures.bounded c.in_ok-call.ensures.bounded c.widen.ensures.inputs c.widen.ensures.size

pub own_parts-own_size-width-requires : goal.own_parts-own_size-width-requires
own_parts-own_size-width-requires g t c = (lists.all_sized_at (g.B.Bindings.widths c.args.b.now) c.args.parts.now c.loop-i.i c.index-parts-i.result c.requires.sized c.loop-i-test.true c.index-parts-i.is)

pub own_parts-translate-requires : goal.own_parts-translate-requires
own_parts-translate-requires g t c κs within = ((search (rules, the_lemmas)), ((search (rules, the_lemmas)), (c.requires.right, ((lists.all_sized_at (g.B.Bindings.widths c.args.b.now) c.args.parts.now c.loop-i.i c.index-parts-i.result c.requires.sized c.loop-i-test.true c.index-parts-i.is), ((ready.at_own c.own_size-width.result (size (g.B.Bindings.widths c.args.b.now) c.index-parts-i.result) c.own_size-width.ensures.is), (c.own_size-width.ensures.high, (let part = lists.sum_at (bound.nodes_of (g.B.Bindings.bounds c.args.b.now)) c.args.parts.now c.loop-i.i c.index-parts-i.result c.loop-i-test.true c.index-parts-i.is in let few = c.requires.few in omega (arith, part, few))))))))

pub own_parts-loop-i-preserved : goal.own_parts-loop-i-preserved
own_parts-loop-i-preserved g t c = record {
  means = ap (map typed.meaning) c.in_ok-push.ensures.items ∙ lists.parts_more (g.B.Bindings.widths c.args.b.now) (g.B.Bindings.env c.args.b.now) c.args.parts.now c.loop-i.i c.index-parts-i.result c.own_size-width.result c.loop-i.built.items c.in_ok-translate.field-0 c.loop-i-test.true c.index-parts-i.is c.own_size-width.ensures.is c.loop-i.invariant.means c.in_ok-translate.ensures.means;
  bounded = (let P : List Node → Type 0 = λ es. bound.AreBounded (g.B.Bindings.bounds c.args.b.now) (take (c.loop-i.i + 1) c.args.parts.now) es in subst P (sym c.in_ok-push.ensures.items) (lists.bounded_more (g.B.Bindings.bounds c.args.b.now) c.args.parts.now c.loop-i.i c.index-parts-i.result c.loop-i.built.items c.in_ok-translate.field-0 c.loop-i-test.true c.index-parts-i.is c.loop-i.invariant.bounded c.in_ok-translate.ensures.bounded));
}

pub own_parts-returns-clause-means : goal.own_parts-returns-clause-means
own_parts-returns-clause-means g t c = (let P : List Expr → Type 0 = λ xs. map typed.meaning c.loop-i.built.items ≡ map (own_typed (g.B.Bindings.env c.args.b.now)) (map (meaning (g.B.Bindings.widths c.args.b.now)) xs) in subst P (ready.all_taken c.args.parts.now c.loop-i.i c.loop-i-test.false) c.loop-i.invariant.means)

pub own_parts-returns-clause-bounded : goal.own_parts-returns-clause-bounded
own_parts-returns-clause-bounded g t c = (let P : List Expr → Type 0 = λ xs. bound.AreBounded (g.B.Bindings.bounds c.args.b.now) xs c.loop-i.built.items in subst P (ready.all_taken c.args.parts.now c.loop-i.i c.loop-i-test.false) c.loop-i.invariant.bounded)

pub assigned_arguments-parameter-width-requires-clause-known : goal.assigned_arguments-parameter-width-requires-clause-known
assigned_arguments-parameter-width-requires-clause-known g t c = (lists.argument_there (g.B.Bindings.widths c.args.b.now) ((g.B.Bindings.widths c.args.b.now).parameters c.args.name.now.bytes) c.args.arguments.now c.loop-i.i c.index-arguments-i.result c.requires.sized c.loop-i-test.true c.index-arguments-i.is).width

pub assigned_arguments-assign-requires : goal.assigned_arguments-assign-requires
assigned_arguments-assign-requires g t c κs within = ((search (rules, the_lemmas)), ((search (rules, the_lemmas)), (c.requires.right, ((lists.argument_there (g.B.Bindings.widths c.args.b.now) ((g.B.Bindings.widths c.args.b.now).parameters c.args.name.now.bytes) c.args.arguments.now c.loop-i.i c.index-arguments-i.result c.requires.sized c.loop-i-test.true c.index-arguments-i.is).argument, ((let is = c.parameter-width.ensures.is in let low = (has_width (slice_index ((g.B.Bindings.widths c.args.b.now).parameters c.args.name.now.bytes) c.loop-i.i) (lists.argument_there (g.B.Bindings.widths c.args.b.now) ((g.B.Bindings.widths c.args.b.now).parameters c.args.name.now.bytes) c.args.arguments.now c.loop-i.i c.index-arguments-i.result c.requires.sized c.loop-i-test.true c.index-arguments-i.is).width).low in omega (arith, is, low)), ((let is = c.parameter-width.ensures.is in let high = (has_width (slice_index ((g.B.Bindings.widths c.args.b.now).parameters c.args.name.now.bytes) c.loop-i.i) (lists.argument_there (g.B.Bindings.widths c.args.b.now) ((g.B.Bindings.widths c.args.b.now).parameters c.args.name.now.bytes) c.args.arguments.now c.loop-i.i c.index-arguments-i.result c.requires.sized c.loop-i-test.true c.index-arguments-i.is).width).high in omega (arith, is, high)), (let part = lists.weighted_at ((g.B.Bindings.bounds c.args.b.now).seen.times c.args.name.now.bytes) (bound.nodes_of (g.B.Bindings.bounds c.args.b.now)) 0 c.args.arguments.now c.loop-i.i c.index-arguments-i.result c.loop-i-test.true c.index-arguments-i.is (ready.counted_at ((g.B.Bindings.bounds c.args.b.now).seen.times c.args.name.now.bytes) c.loop-i.i c.parameter-width.ensures.counted) in let few = c.requires.few in omega (arith, part, few))))))))

pub assigned_arguments-loop-i-preserved : goal.assigned_arguments-loop-i-preserved
assigned_arguments-loop-i-preserved g t c = record {
  means = ap (map typed.meaning) c.in_ok-push.ensures.items ∙ lists.arguments_more (g.B.Bindings.widths c.args.b.now) (g.B.Bindings.env c.args.b.now) ((g.B.Bindings.widths c.args.b.now).parameters c.args.name.now.bytes) c.args.arguments.now c.loop-i.i c.index-arguments-i.result c.parameter-width.result c.loop-i.built.items c.in_ok-assign.field-0 c.requires.sized c.loop-i-test.true c.index-arguments-i.is c.parameter-width.ensures.is c.loop-i.invariant.means c.in_ok-assign.ensures.means;
  bounded = (let P : List Node → Type 0 = λ es. bound.AreArgumentsBounded (g.B.Bindings.bounds c.args.b.now) c.args.name.now.bytes (take (c.loop-i.i + 1) c.args.arguments.now) es in subst P (sym c.in_ok-push.ensures.items) (lists.argument_bounded (g.B.Bindings.bounds c.args.b.now) c.args.name.now.bytes c.args.arguments.now c.loop-i.i c.index-arguments-i.result c.loop-i.built.items c.in_ok-assign.field-0 c.loop-i-test.true c.index-arguments-i.is c.loop-i.invariant.many c.loop-i.invariant.bounded c.in_ok-assign.ensures.bounded));
  many = ap length c.in_ok-push.ensures.items ∙ ready.one_more c.loop-i.built.items c.in_ok-assign.field-0 c.loop-i.i c.loop-i.invariant.many;
}

pub assigned_arguments-returns-clause-means : goal.assigned_arguments-returns-clause-means
assigned_arguments-returns-clause-means g t c = (let P : List Expr → Type 0 = λ xs. map typed.meaning c.loop-i.built.items ≡ arguments_typed (g.B.Bindings.env c.args.b.now) ((g.B.Bindings.widths c.args.b.now).parameters c.args.name.now.bytes) (map (meaning (g.B.Bindings.widths c.args.b.now)) xs) in subst P (ready.all_taken c.args.arguments.now c.loop-i.i c.loop-i-test.false) c.loop-i.invariant.means)

pub assigned_arguments-returns-clause-bounded : goal.assigned_arguments-returns-clause-bounded
assigned_arguments-returns-clause-bounded g t c = (let P : List Expr → Type 0 = λ xs. bound.AreArgumentsBounded (g.B.Bindings.bounds c.args.b.now) c.args.name.now.bytes xs c.loop-i.built.items in subst P (ready.all_taken c.args.arguments.now c.loop-i.i c.loop-i-test.false) c.loop-i.invariant.bounded)

pub assigned_arguments-loop-i-init : goal.assigned_arguments-loop-i-init
assigned_arguments-loop-i-init g t c = record {
  means = ap (map typed.meaning) c.new-built.ensures.items ∙ lists.first_means (g.B.Bindings.widths c.args.b.now) (g.B.Bindings.env c.args.b.now) ((g.B.Bindings.widths c.args.b.now).parameters c.args.name.now.bytes) c.args.arguments.now;
  bounded = (let P : List Node → Type 0 = λ es. bound.AreArgumentsBounded (g.B.Bindings.bounds c.args.b.now) c.args.name.now.bytes (take 0 c.args.arguments.now) es in subst P (sym c.new-built.ensures.items) (lists.first_bounded (g.B.Bindings.bounds c.args.b.now) c.args.name.now.bytes c.args.arguments.now));
  many = ap length c.new-built.ensures.items;
}

pub assign-translate-requires : goal.assign-translate-requires
assign-translate-requires g t c κs within = ((search (rules, the_lemmas)), ((search (rules, the_lemmas)), (c.requires.right, (c.requires.sized, ((let is = c.own_size.ensures.is in let most = c.max-n.ensures in omega (arith, is, most)), ((let high = c.own_size.ensures.high in let wide = c.requires.high in let most = c.max-n.ensures in omega (arith, high, wide, most)), c.requires.few))))))

pub assign-part-requires-clause-within : goal.assign-part-requires-clause-within
assign-part-requires-clause-within g t c = (let width = ap (λ (m : Typed). m.width) c.in_ok-whole.ensures.means in let most = c.max-n.ensures in let low = c.requires.low in omega (arith, width, most, low))

pub assign-part-requires-clause-limit : goal.assign-part-requires-clause-limit
assign-part-requires-clause-limit g t c = (let fits = ready.size_fits (typed.size c.in_ok-whole.whole) 100 (ready.within_limit (g.B.Bindings.bounds c.args.b.now).widths bound.room (bound.nodes_of (g.B.Bindings.bounds c.args.b.now) c.args.x.now) (λ k. bound.reads_of (g.B.Bindings.bounds c.args.b.now) k c.args.x.now) c.in_ok-whole.whole c.in_ok-whole.ensures.bounded c.requires.few) (omega arith) in omega (arith, fits))

pub assign-returns-clause-means : goal.assign-returns-clause-means
assign-returns-clause-means g t c = form.meant c.part.result _ _ (form.assigned_form (g.B.Bindings.widths c.args.b.now) (g.B.Bindings.env c.args.b.now) c.args.width c.args.x.now c.own_size.result c.max-n.result (typed.meaning c.in_ok-whole.whole) c.requires.low c.own_size.ensures.is c.max-n.ensures c.in_ok-whole.ensures.means) c.part.ensures.means

pub assign-returns-clause-bounded : goal.assign-returns-clause-bounded
assign-returns-clause-bounded g t c = formed.assigned_bounded c.part.result (g.B.Bindings.bounds c.args.b.now) c.args.x.now c.in_ok-whole.whole c.in_ok-whole.ensures.bounded c.part.ensures.inputs c.part.ensures.size
