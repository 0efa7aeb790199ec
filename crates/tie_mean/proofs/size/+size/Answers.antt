use Rattle.std.proofs.Common.{◌≡◌, ◌≤◌, ℕ, ◌∙◌, sym, ap, drop, max, List, [], map, arith}
use Rattle.std.proofs.lemmas.List.{drop_all, drop-map}
use Rattle.tie_grammar.specs.declared.tree.Expr.{Expr}
use Rattle.tie_mean.specs.Sizes as spec
use Rattle.tie_mean.specs.Values as value
use Rattle.tie_mean.proofs.Layers.{tie_is}
use Rattle.tie_mean.proofs.Forms.{repeat_size, size_there}
use Rattle.tie_mean.proofs.size.+size.Goals as goal

pub greatest_arm_size-returns : goal.greatest_arm_size-returns
greatest_arm_size-returns g t c =
    let w = g.S.Scope.widths c.args.scope.now in
    let parts = c.args.parts.now in
    let empty : drop c.loop-i.i parts ≡ [] = drop_all c.loop-i.i parts (omega arith) in
    let f : List Expr → ℕ = λ xs. spec.limited (max c.loop-i.greatest (spec.greatest_size (value.sizes w xs))) in
    let last : f [] ≡ spec.limited (spec.greatest_size (value.sizes w (drop 1 parts))) = sym (ap f empty) ∙ c.loop-i.invariant.1 in
    let low : c.loop-i.greatest ≤ 4294967296 = c.loop-i.invariant.0 in
    let here : c.loop-i.greatest ≡ f [] = omega arith in
    here ∙ last ∙ ap (λ ns. spec.limited (spec.greatest_size ns)) (sym (drop-map (λ (m : value.Meaning). m.size) 1 (map (value.meaning w) parts) ∙ ap value.sizes_of (drop-map (value.meaning w) 1 parts)))

pub size-returns-in-Repeat : goal.size-returns-in-Repeat
size-returns-in-Repeat g t c =
    repeat_size (g.S.Scope.widths c.args.scope.now) _ c.in-Repeat.count _ c.in-Repeat.part _ _ _ c.repeat_size.ensures c.size-in-Repeat.ensures c.get-in-Repeat.ensures
    ∙ sym (ap (λ x. spec.limited (value.size (g.S.Scope.widths c.args.scope.now) x)) c.in-Repeat.is)

pub size_at-returns-then-at-parts : goal.size_at-returns-then-at-parts
size_at-returns-then-at-parts g t c =
    c.size.ensures ∙ ap spec.limited (size_there (g.S.Scope.widths c.args.scope.now) c.args.parts.now c.args.at c.index-parts-at.result c.if-at-parts.true c.index-parts-at.is)

pub size-returns-in-Tie : goal.size-returns-in-Tie
size-returns-in-Tie g t c =
    let w = g.S.Scope.widths c.args.scope.now in
    c.tie_size.ensures ∙ ap (λ (xs : List Expr). spec.limited (spec.tie_size c.in-Tie.word.function (value.sizes w xs))) c.as_slice.ensures
    ∙ sym (ap (λ (m : value.Meaning). spec.limited m.size) (ap (value.meaning w) c.in-Tie.is ∙ tie_is w c.in-Tie.word c.in-Tie.field-1 c.in-Tie.arguments))
