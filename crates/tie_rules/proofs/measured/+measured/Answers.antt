use Rattle.std.proofs.Common.{◌≡◌, ◌≤◌, ◌+◌, ℕ, List, Option, ◌++◌, ap, sym, ◌∙◌, arith, drop, sum}
use Rattle.std.specs.List.{flat_map}
use Rattle.std.proofs.lemmas.Grind.{flat_map-append}
use Rattle.std.proofs.lemmas.List.Sums.{sum_by-cons}
use Rattle.tie_grammar.specs.declared.tree.Expr.{Expr}
use Rattle.tie_mean.specs.Sizes.{limited}
use Rattle.tie_mean.specs.Values.{size, sizes}
use Rattle.tie_mean.proofs.Forms.{repeat_size}
use Rattle.tie_rules.specs.Bodies.{size_here}
use Rattle.tie_rules.specs.Least.{earlier, least}
use Rattle.tie_rules.specs.Parts.{below, parts, at_parts}
use Rattle.tie_rules.proofs.Places.{least_append, next_of, each_next}
use Rattle.tie_rules.proofs.Shapes.{at_all_parts, below-Index, below-Call, below-Tie, below-Paren, below-Concat, below-Repeat, below-Unary, below-Binary, below-Conditional}
use Rattle.tie_rules.proofs.measured.+measured.Goals as goal

pub measured_all-loop-part-preserved : goal.measured_all-loop-part-preserved
measured_all-loop-part-preserved g t c =
    let w = g.S.Scope.widths c.args.scope.now in
    let xs = c.args.parts.now in
    let i = c.loop-part.part-index in
    let x = c.part-item.result in
    let next = next_of xs i x c.loop-part-test.true c.part-item.is in
    let now : limited (c.loop-part.total + (size w x + sum (sizes w (drop (i + 1) xs)))) ≡ limited (sum (sizes w xs)) =
    sym (ap (λ (n : ℕ). limited (c.loop-part.total + n)) (sum_by-cons (λ (n : ℕ). n) (size w x) (sizes w (drop (i + 1) xs))))
    ∙ sym (ap (λ (ys : List Expr). limited (c.loop-part.total + sum (sizes w ys))) next) ∙ c.loop-part.invariant.total in
    let here : c.measured-one.result.size ≡ limited (size w x) = c.measured-one.ensures.size in
    record {
      low = omega arith;
      total = omega arith;
      place = rw (c.earlier-found.ensures, c.measured-one.ensures.place)
          (each_next (at_parts (size_here w)) c.loop-part.found xs i x _ c.loop-part-test.true c.part-item.is c.loop-part.invariant.place);
    }

pub measured_below-returns-in-Index-clause-place : goal.measured_below-returns-in-Index-clause-place
measured_below-returns-in-Index-clause-place g t c =
    let h = size_here (g.S.Scope.widths c.args.scope.now) in
    let e = ap (λ (x : Expr). least (flat_map h (below x))) c.in-Index.is ∙ ap (λ (ps : List Expr). least (flat_map h ps)) (below-Index c.in-Index.field-0 c.in-Index.index) in
    rw (c.measured-one.ensures.place, c.get.ensures) (sym e)

pub measured_below-returns-in-Call-clause-place : goal.measured_below-returns-in-Call-clause-place
measured_below-returns-in-Call-clause-place g t c =
    let h = size_here (g.S.Scope.widths c.args.scope.now) in
    let e = ap (λ (x : Expr). least (flat_map h (below x))) c.in-Call.is ∙ ap (λ (ps : List Expr). least (flat_map h ps)) (below-Call c.in-Call.field-0 c.in-Call.field-1 c.in-Call.arguments)
    ∙ ap least (at_all_parts h c.in-Call.arguments) in
    rw (c.measured_all-all.ensures.place, c.as_slice.ensures) (sym e)

pub measured_below-returns-in-Tie-clause-place : goal.measured_below-returns-in-Tie-clause-place
measured_below-returns-in-Tie-clause-place g t c =
    let h = size_here (g.S.Scope.widths c.args.scope.now) in
    let e = ap (λ (x : Expr). least (flat_map h (below x))) c.in-Tie.is ∙ ap (λ (ps : List Expr). least (flat_map h ps)) (below-Tie c.in-Tie.field-0 c.in-Tie.field-1 c.in-Tie.arguments)
    ∙ ap least (at_all_parts h c.in-Tie.arguments) in
    rw (c.measured_all-all-in-Tie.ensures.place, c.as_slice-in-Tie.ensures) (sym e)

pub measured_below-returns-in-Paren-clause-place : goal.measured_below-returns-in-Paren-clause-place
measured_below-returns-in-Paren-clause-place g t c =
    let h = size_here (g.S.Scope.widths c.args.scope.now) in
    let e = ap (λ (x : Expr). least (flat_map h (below x))) c.in-Paren.is ∙ ap (λ (ps : List Expr). least (flat_map h ps)) (below-Paren c.in-Paren.field-0 c.in-Paren.inner) in
    rw (c.measured.ensures.place, c.get-in-Paren.ensures) (sym e)

pub measured_below-returns-in-Concat-clause-place : goal.measured_below-returns-in-Concat-clause-place
measured_below-returns-in-Concat-clause-place g t c =
    let h = size_here (g.S.Scope.widths c.args.scope.now) in
    let e = ap (λ (x : Expr). least (flat_map h (below x))) c.in-Concat.is ∙ ap (λ (ps : List Expr). least (flat_map h ps)) (below-Concat c.in-Concat.field-0 c.in-Concat.parts)
    ∙ ap least (at_all_parts h c.in-Concat.parts) in
    rw (c.measured_all-all-in-Concat.ensures.place, c.as_slice-in-Concat.ensures) (sym e)

pub measured_below-returns-in-Repeat-clause-size : goal.measured_below-returns-in-Repeat-clause-size
measured_below-returns-in-Repeat-clause-size g t c =
    let w = g.S.Scope.widths c.args.scope.now in
    repeat_size w _ c.in-Repeat.count _ c.in-Repeat.part _ _ _ c.repeat_size.ensures c.measured-one-in-Repeat.ensures.size c.get-in-Repeat.ensures
    ∙ sym (ap (λ (x : Expr). limited (size w x)) c.in-Repeat.is)

pub measured_below-returns-in-Repeat-clause-place : goal.measured_below-returns-in-Repeat-clause-place
measured_below-returns-in-Repeat-clause-place g t c =
    let h = size_here (g.S.Scope.widths c.args.scope.now) in
    let e = ap (λ (x : Expr). least (flat_map h (below x))) c.in-Repeat.is ∙ ap (λ (ps : List Expr). least (flat_map h ps)) (below-Repeat c.in-Repeat.field-0 c.in-Repeat.count c.in-Repeat.field-2 c.in-Repeat.part) in
    rw (c.measured-one-in-Repeat.ensures.place, c.get-in-Repeat.ensures) (sym e)

pub measured_below-returns-in-Unary-clause-place : goal.measured_below-returns-in-Unary-clause-place
measured_below-returns-in-Unary-clause-place g t c =
    let h = size_here (g.S.Scope.widths c.args.scope.now) in
    let e = ap (λ (x : Expr). least (flat_map h (below x))) c.in-Unary.is ∙ ap (λ (ps : List Expr). least (flat_map h ps)) (below-Unary c.in-Unary.op c.in-Unary.field-1 c.in-Unary.operand) in
    rw (c.measured-one-in-Unary.ensures.place, c.get-in-Unary.ensures) (sym e)

pub measured_below-returns-in-Binary-clause-place : goal.measured_below-returns-in-Binary-clause-place
measured_below-returns-in-Binary-clause-place g t c =
    let h = size_here (g.S.Scope.widths c.args.scope.now) in
    let a = c.in-Binary.left in
    let b = c.in-Binary.right in
    let e = ap (λ (x : Expr). least (flat_map h (below x))) c.in-Binary.is ∙ ap (λ (ps : List Expr). least (flat_map h ps)) (below-Binary c.in-Binary.operator a b)
    ∙ ap least (flat_map-append h (parts a) (parts b)) ∙ least_append (at_parts h a) (at_parts h b) in
    rw (c.earlier.ensures, c.measured-first.ensures.place, c.measured-second.ensures.place, c.get-in-Binary.ensures, c.get-in-Binary-2.ensures) (sym e)

pub measured_below-returns-in-Conditional-clause-place : goal.measured_below-returns-in-Conditional-clause-place
measured_below-returns-in-Conditional-clause-place g t c =
    let h = size_here (g.S.Scope.widths c.args.scope.now) in
    let x = c.in-Conditional.condition in
    let a = c.in-Conditional.met in
    let b = c.in-Conditional.unmet in
    let e = ap (λ (x : Expr). least (flat_map h (below x))) c.in-Conditional.is ∙ ap (λ (ps : List Expr). least (flat_map h ps)) (below-Conditional x a b)
    ∙ ap least (flat_map-append h (parts x) (parts a ++ parts b) ∙ ap (λ (ps : List ℕ). at_parts h x ++ ps) (flat_map-append h (parts a) (parts b)))
    ∙ least_append (at_parts h x) (at_parts h a ++ at_parts h b) ∙ ap (earlier (least (at_parts h x))) (least_append (at_parts h a) (at_parts h b)) in
    rw (c.earlier-in-Conditional-2.ensures, c.earlier-in-Conditional.ensures, c.measured-test.ensures.place, c.measured-first-in-Conditional.ensures.place, c.measured-second-in-Conditional.ensures.place, c.get-in-Conditional.ensures, c.get-in-Conditional-2.ensures, c.get-in-Conditional-3.ensures) (sym e)
