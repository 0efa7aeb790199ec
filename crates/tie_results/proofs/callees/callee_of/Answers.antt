use Rattle.std.proofs.Common.{◌≡◌, ℕ, ◌+◌, ◌-◌, [], ◌∷◌, List, Option, Some, length, get_or, sym, subst, ap, ◌∙◌, rules, arith}
use Rattle.std.specs.Vec.{vec_len}
use Rattle.tie_expr.specs.declared.node.Node.{Node}
use Rattle.tie_results.specs.Bodies.{IsKept}
use Rattle.tie_results.specs.Translated.{calls_behind, function_body}
use Rattle.tie_results.proofs.Keeping.{callee_is, one_result, too_many, few_nodes, function_within}
use Rattle.tie_results.proofs.callees.callee_of.Goals as goal

pub returns-then-call_count-gt4096-clause-kept : goal.returns-then-call_count-gt4096-clause-kept
returns-then-call_count-gt4096-clause-kept c =
    too_many c.args.tree.now c.args.function.now c.args.declarations c.call_count.result c.requires.sound (function_within c.args.tree.now.declarations c.args.declarations c.args.function.now c.requires.function) c.requires.function
    (c.call_count.ensures ∙ c.requires.counts.calls c.args.function.now.name.bytes) c.if-call_count-gt4096.true

pub translated-requires-clause-function : goal.translated-requires-clause-function
translated-requires-clause-function c = c.requires.sound.functions c.args.declarations c.args.function.now c.requires.function

pub translated-requires-clause-few : goal.translated-requires-clause-few
translated-requires-clause-few c =
    few_nodes c.args.tree.now c.args.function.now c.args.declarations c.call_count.result c.requires.sound (function_within c.args.tree.now.declarations c.args.declarations c.args.function.now c.requires.function) c.requires.function
    (c.call_count.ensures ∙ c.requires.counts.calls c.args.function.now.name.bytes) c.if-call_count-gt4096.false

pub returns-clause-kept : goal.returns-clause-kept
returns-clause-kept c =
    let one = one_result (function_body c.args.tree.now c.args.function.now c.args.declarations) c.args.function.now.name.bytes c.in_ok-results.results.items c.in_ok-results.ensures in
    let e : Node = one.0 in
    let items : c.in_ok-results.results.items ≡ e ∷ [] = one.1 in
    let many : length c.in_ok-results.results.items ≡ vec_len c.in_ok-results.results = search rules in
    let long : vec_len c.in_ok-results.results ≡ 1 = sym many ∙ ap (λ (es : List Node). length es) items in
    let popped : c.pop.result ≡ Some e =
    c.pop.ensures.value e (omega (arith, long)) ∙ ap (λ (n : ℕ). Some (get_or c.in_ok-results.results.items (n - 1) e)) long ∙ ap (λ (es : List Node). Some (get_or es 0 e)) items in
    subst (λ (o : Option Node). IsKept (calls_behind c.args.tree.now (c.args.declarations + 1)) c.args.function.now.name.bytes o) (sym popped)
    (callee_is c.args.tree.now c.args.function.now c.args.declarations e (c.requires.sound.functions c.args.declarations c.args.function.now c.requires.function) c.requires.function one.2)
