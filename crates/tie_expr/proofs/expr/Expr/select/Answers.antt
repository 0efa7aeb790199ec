use Rattle.std.proofs.Common.{◌≡◌, ◌<◌, ◌^◌, IsTrue, length, sym, ap, ◌∙◌, subst, arith}
use Rattle.std.specs.List.{list_all, sum_by}
use Rattle.std.proofs.lemmas.Nat.{pow_pos}
use Rattle.tie_expr.specs.Tree.{meaning, size, typed}
use Rattle.tie_expr.specs.declared.node.Node.{Node}
use Rattle.tie_expr.proofs.Typed.{select_means, select_inputs, select_sizes, select_typed, select_width}
use Rattle.tie_expr.proofs.expr.Expr.select.Goals as goal

pub invariant_of-result : goal.invariant_of-result
invariant_of-result c =
    let s = c.args.s in
    let arms = c.args.arms.items in
    let first = c.index.result.now in
    let same_s : c.in_ok-number.number ≡ s = c.in_ok-number.ensures ∙ c.into_node.ensures.is in
    let checked : IsTrue (typed s) = subst (λ (x : Node). IsTrue (typed x)) c.into_node.ensures.is c.into_node.ensures.typed in
    let count : length arms ≡ 2 ^ (meaning s).width = omega arith in
    let powers = pow_pos (meaning s).width in
    let some : 0 < length arms = omega arith in
    let width : c.behind-arms.inside.width ≡ (meaning first).width = c.behind-arms.invariant.0 ∙ ap (λ (x : Node). (meaning x).width) c.behind-arms.view_is in
    let weight : c.s.inside.weight ≡ size s = c.s.invariant.3 ∙ ap size c.s.view_is in
    let total : c.total_weight.result ≡ sum_by size arms = c.total_weight.ensures ∙ ap (sum_by size) c.deref.ensures.value in
    rw (c.in_ok-arms.ensures.same, same_s) (
      width ∙ sym (select_width s arms first some c.index.ensures),
      omega arith,
      omega arith,
      omega arith ∙ sym (select_sizes s arms),
      omega arith,
      select_typed s arms checked c.requires.few count c.requires.widths (subst (λ xs. IsTrue (list_all typed xs)) c.in_ok-arms.ensures.same c.in_ok-arms.ensures.typed),
    )

pub returns-clause-means : goal.returns-clause-means
returns-clause-means c =
    let same_s : c.in_ok-number.number ≡ c.args.s = c.in_ok-number.ensures ∙ c.into_node.ensures.is in
    select_means c.in_ok-number.number c.in_ok-arms.arms ∙ rw (c.in_ok-arms.ensures.same, same_s)

pub returns-clause-size : goal.returns-clause-size
returns-clause-size c =
    let same_s : c.in_ok-number.number ≡ c.args.s = c.in_ok-number.ensures ∙ c.into_node.ensures.is in
    select_sizes c.in_ok-number.number c.in_ok-arms.arms ∙ rw (c.in_ok-arms.ensures.same, same_s)

pub returns-clause-inputs : goal.returns-clause-inputs
returns-clause-inputs c =
    let same_s : c.in_ok-number.number ≡ c.args.s = c.in_ok-number.ensures ∙ c.into_node.ensures.is in
    select_inputs c.in_ok-number.number c.in_ok-arms.arms ∙ rw (c.in_ok-arms.ensures.same, same_s)
