use Rattle.std.proofs.Common.{◌≡◌, ◌+◌, ◌*◌, length, map, max, take}
use denote.Param.Weighed.{most}
use Rattle.tie_grammar.specs.declared.tree.Expr.{Expr}
use Rattle.tie_grammar.proofs.tree.Expr.TheLaws.{the_size}
use Rattle.tie_expr.specs.Tree as typed
use Rattle.tie_mean.specs.Values.{meaning}
use Rattle.tie_translate.specs.Bounds as bound
use Rattle.tie_translate.specs.Translation.{arguments_typed, own_typed}
use Rattle.tie_translate.proofs.translate.+translate.Given as goal

abbrev pub invariant-own_parts-loop-i : goal.invariant-own_parts-loop-i
invariant-own_parts-loop-i g l = record {
  means : map typed.meaning l.built.items ≡ map (own_typed (g.B.Bindings.env l.b)) (map (meaning (g.B.Bindings.widths l.b)) (take l.i l.parts));
  bounded : bound.AreBounded (g.B.Bindings.bounds l.b) (take l.i l.parts) l.built.items;
}

abbrev pub invariant-assigned_arguments-loop-i : goal.invariant-assigned_arguments-loop-i
invariant-assigned_arguments-loop-i g l = record {
  means : map typed.meaning l.built.items ≡ arguments_typed (g.B.Bindings.env l.b) ((g.B.Bindings.widths l.b).parameters l.name.bytes) (map (meaning (g.B.Bindings.widths l.b)) (take l.i l.arguments));
  bounded : bound.AreArgumentsBounded (g.B.Bindings.bounds l.b) l.name.bytes (take l.i l.arguments) l.built.items;
  many : length l.built.items ≡ l.i;
}

abbrev pub decreases-translate : goal.decreases-translate
decreases-translate g l = 4 * the_size l.x.now

abbrev pub decreases-assign : goal.decreases-assign
decreases-assign g l = 4 * the_size l.x.now + 1

abbrev pub decreases-unary_form : goal.decreases-unary_form
decreases-unary_form g l = 4 * the_size l.operand.now + 1

abbrev pub decreases-repeat_form : goal.decreases-repeat_form
decreases-repeat_form g l = 4 * the_size l.part.now + 1

abbrev pub decreases-index_form : goal.decreases-index_form
decreases-index_form g l = 4 * the_size l.index.now + 1

abbrev pub decreases-binary_form : goal.decreases-binary_form
decreases-binary_form g l = 4 * max (the_size l.left.now) (the_size l.right.now) + 1

abbrev pub decreases-conditional_form : goal.decreases-conditional_form
decreases-conditional_form g l = 4 * max (the_size l.condition.now) (max (the_size l.met.now) (the_size l.unmet.now)) + 1

abbrev pub decreases-own_parts : goal.decreases-own_parts
decreases-own_parts g l = 4 * most (λ (x : Expr). the_size x) l.parts.now + 2

abbrev pub decreases-assigned_arguments : goal.decreases-assigned_arguments
decreases-assigned_arguments g l = 4 * most (λ (x : Expr). the_size x) l.arguments.now + 2

abbrev pub decreases-concat_form : goal.decreases-concat_form
decreases-concat_form g l = 4 * most (λ (x : Expr). the_size x) l.parts.now + 3

abbrev pub decreases-tie_form : goal.decreases-tie_form
decreases-tie_form g l = 4 * most (λ (x : Expr). the_size x) l.arguments.now + 3

abbrev pub decreases-call_form : goal.decreases-call_form
decreases-call_form g l = 4 * most (λ (x : Expr). the_size x) l.arguments.now + 3
