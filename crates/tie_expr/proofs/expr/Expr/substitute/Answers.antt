use Rattle.std.proofs.Common.{◌≤◌, ◌∙◌, sym, ap, subst}
use Rattle.tie_expr.specs.Size.{size_limit}
use Rattle.tie_expr.specs.Tree.{summary, meaning, size}
use Rattle.tie_expr.specs.declared.node.Node.{Node}
use Rattle.tie_expr.proofs.Substitute.{same_width, node_becomes, replaced_size}
use Rattle.tie_expr.proofs.expr.Expr.substitute.Goals as goal

pub weigh-weight-requires : goal.weigh-weight-requires
weigh-weight-requires c =
    let b = node_becomes c.args.arguments.now c.args.self.now c.self.inside.node c.in_ok-node.node c.see_each.ensures c.self.invariant.5 c.requires.over c.self.view_is c.in_ok-node.ensures in
    subst (λ n. n ≤ size_limit) (sym (replaced_size c.args.arguments.now (summary c.args.self.now) (summary c.in_ok-node.node) b)) c.requires.limit

pub invariant_of-result : goal.invariant_of-result
invariant_of-result c =
    let b = node_becomes c.args.arguments.now c.args.self.now c.self.inside.node c.in_ok-node.node c.see_each.ensures c.self.invariant.5 c.requires.over c.self.view_is c.in_ok-node.ensures in
    let below : size c.in_ok-node.node ≤ size_limit = subst (λ n. n ≤ size_limit) (sym (replaced_size c.args.arguments.now (summary c.args.self.now) (summary c.in_ok-node.node) b)) c.requires.limit in (
      c.self.invariant.0 ∙ ap (λ (x : Node). (meaning x).width) c.self.view_is ∙ sym (same_width c.args.arguments.now (summary c.args.self.now) (summary c.in_ok-node.node) b),
      c.self.invariant.1,
      c.self.invariant.2,
      c.weigh-weight.ensures,
      subst (λ n. n ≤ size_limit) (sym c.weigh-weight.ensures) below,
      b.typed,
    )

pub returns-clause-means : goal.returns-clause-means
returns-clause-means c =
    let b = node_becomes c.args.arguments.now c.args.self.now c.self.inside.node c.in_ok-node.node c.see_each.ensures c.self.invariant.5 c.requires.over c.self.view_is c.in_ok-node.ensures in
    b.means

pub returns-clause-inputs : goal.returns-clause-inputs
returns-clause-inputs c =
    let b = node_becomes c.args.arguments.now c.args.self.now c.self.inside.node c.in_ok-node.node c.see_each.ensures c.self.invariant.5 c.requires.over c.self.view_is c.in_ok-node.ensures in
    b.inputs

pub returns-clause-size : goal.returns-clause-size
returns-clause-size c =
    let b = node_becomes c.args.arguments.now c.args.self.now c.self.inside.node c.in_ok-node.node c.see_each.ensures c.self.invariant.5 c.requires.over c.self.view_is c.in_ok-node.ensures in
    replaced_size c.args.arguments.now (summary c.args.self.now) (summary c.in_ok-node.node) b
