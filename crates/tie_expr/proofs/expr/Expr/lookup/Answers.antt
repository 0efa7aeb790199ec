use Rattle.std.proofs.Common.{◌≡◌, ◌<◌, ◌≤◌, ◌+◌, ◌^◌, IsTrue, List, ℕ, length, sym, ap, subst, ◌∙◌, arith}
use Rattle.std.specs.List.{All}
use Rattle.tie_expr.specs.Tree.{Summary, size, typed}
use Rattle.tie_expr.specs.declared.node.Node.{Node}
use Rattle.tie_expr.proofs.Typed.{lookup_is, lookup_typed}
use Rattle.tie_expr.proofs.expr.Expr.lookup.Goals as goal

pub invariant_of-result : goal.invariant_of-result
invariant_of-result c =
    let index = c.in_ok-index.index in
    let entries = c.from_vec-entries.result in
    let same : index ≡ c.args.index = c.in_ok-index.ensures ∙ c.into_node.ensures.is in
    let weight : c.index.inside.weight ≡ size c.args.index = c.index.invariant.3 ∙ ap size c.index.view_is in
    let is = lookup_is index entries c.args.width in
    let checked : IsTrue (typed index) = subst (λ (x : Node). IsTrue (typed x)) (sym c.in_ok-index.ensures) c.into_node.ensures.typed in
    let few : length entries ≤ 256 = subst (λ (xs : List ℕ). length xs ≤ 256) (sym c.from_vec-entries.ensures) (omega arith) in
    let fit : All (λ x. x < 2 ^ c.args.width) entries = subst (λ (xs : List ℕ). All (λ x. x < 2 ^ c.args.width) xs) (sym c.from_vec-entries.ensures) c.requires.fit in (
      sym (ap (λ (r : Summary). r.meaning.width) is),
      c.requires.low,
      c.requires.high,
      ap (λ n. 560 + n) (weight ∙ ap size (sym same)) ∙ sym (ap (λ (r : Summary). r.size) is),
      omega arith,
      lookup_typed index entries c.args.width checked c.requires.low c.requires.high few fit,
    )
