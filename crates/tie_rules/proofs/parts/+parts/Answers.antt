use Rattle.std.proofs.Common.{ℕ, List, ◌++◌, ap, sym, ◌∙◌}
use Rattle.std.specs.List.{flat_map}
use Rattle.std.proofs.lemmas.Grind.{flat_map-append}
use Rattle.tie_grammar.specs.declared.tree.Expr.{Expr}
use Rattle.tie_rules.specs.Least.{earlier, least}
use Rattle.tie_rules.specs.Parts.{below, parts, at_parts}
use Rattle.tie_rules.proofs.Places.{least_append, each_next}
use Rattle.tie_rules.proofs.Shapes.{at_all_parts, below-Index, below-Call, below-Tie, below-Paren, below-Concat, below-Repeat, below-Unary, below-Binary, below-Conditional}
use Rattle.tie_rules.proofs.parts.+parts.Goals as goal

pub least_below-returns-in-Index : goal.least_below-returns-in-Index
least_below-returns-in-Index g t c =
    let h = g.R.Judge.places c.args.rule.now in
    let e = ap (λ (x : Expr). least (flat_map h (below x))) c.in-Index.is ∙ ap (λ (ps : List Expr). least (flat_map h ps)) (below-Index c.in-Index.field-0 c.in-Index.index) in
    rw (c.least_over.ensures, c.get.ensures) (sym e)

pub least_below-returns-in-Call : goal.least_below-returns-in-Call
least_below-returns-in-Call g t c =
    let h = g.R.Judge.places c.args.rule.now in
    let e = ap (λ (x : Expr). least (flat_map h (below x))) c.in-Call.is ∙ ap (λ (ps : List Expr). least (flat_map h ps)) (below-Call c.in-Call.field-0 c.in-Call.field-1 c.in-Call.arguments)
    ∙ ap least (at_all_parts h c.in-Call.arguments) in
    rw (c.least_over_all.ensures, c.as_slice.ensures) (sym e)

pub least_below-returns-in-Tie : goal.least_below-returns-in-Tie
least_below-returns-in-Tie g t c =
    let h = g.R.Judge.places c.args.rule.now in
    let e = ap (λ (x : Expr). least (flat_map h (below x))) c.in-Tie.is ∙ ap (λ (ps : List Expr). least (flat_map h ps)) (below-Tie c.in-Tie.field-0 c.in-Tie.field-1 c.in-Tie.arguments)
    ∙ ap least (at_all_parts h c.in-Tie.arguments) in
    rw (c.least_over_all-in-Tie.ensures, c.as_slice-in-Tie.ensures) (sym e)

pub least_below-returns-in-Paren : goal.least_below-returns-in-Paren
least_below-returns-in-Paren g t c =
    let h = g.R.Judge.places c.args.rule.now in
    let e = ap (λ (x : Expr). least (flat_map h (below x))) c.in-Paren.is ∙ ap (λ (ps : List Expr). least (flat_map h ps)) (below-Paren c.in-Paren.field-0 c.in-Paren.inner) in
    rw (c.least_over-in-Paren.ensures, c.get-in-Paren.ensures) (sym e)

pub least_below-returns-in-Concat : goal.least_below-returns-in-Concat
least_below-returns-in-Concat g t c =
    let h = g.R.Judge.places c.args.rule.now in
    let e = ap (λ (x : Expr). least (flat_map h (below x))) c.in-Concat.is ∙ ap (λ (ps : List Expr). least (flat_map h ps)) (below-Concat c.in-Concat.field-0 c.in-Concat.parts)
    ∙ ap least (at_all_parts h c.in-Concat.parts) in
    rw (c.least_over_all-in-Concat.ensures, c.as_slice-in-Concat.ensures) (sym e)

pub least_below-returns-in-Repeat : goal.least_below-returns-in-Repeat
least_below-returns-in-Repeat g t c =
    let h = g.R.Judge.places c.args.rule.now in
    let e = ap (λ (x : Expr). least (flat_map h (below x))) c.in-Repeat.is ∙ ap (λ (ps : List Expr). least (flat_map h ps)) (below-Repeat c.in-Repeat.field-0 c.in-Repeat.field-1 c.in-Repeat.field-2 c.in-Repeat.part) in
    rw (c.least_over-in-Repeat.ensures, c.get-in-Repeat.ensures) (sym e)

pub least_below-returns-in-Unary : goal.least_below-returns-in-Unary
least_below-returns-in-Unary g t c =
    let h = g.R.Judge.places c.args.rule.now in
    let e = ap (λ (x : Expr). least (flat_map h (below x))) c.in-Unary.is ∙ ap (λ (ps : List Expr). least (flat_map h ps)) (below-Unary c.in-Unary.field-0 c.in-Unary.field-1 c.in-Unary.operand) in
    rw (c.least_over-in-Unary.ensures, c.get-in-Unary.ensures) (sym e)

pub least_below-returns-in-Binary : goal.least_below-returns-in-Binary
least_below-returns-in-Binary g t c =
    let h = g.R.Judge.places c.args.rule.now in
    let a = c.in-Binary.left in
    let b = c.in-Binary.right in
    let e = ap (λ (x : Expr). least (flat_map h (below x))) c.in-Binary.is ∙ ap (λ (ps : List Expr). least (flat_map h ps)) (below-Binary c.in-Binary.field-0 a b)
    ∙ ap least (flat_map-append h (parts a) (parts b)) ∙ least_append (at_parts h a) (at_parts h b) in
    rw (c.earlier.ensures, c.least_over-in-Binary.ensures, c.least_over-in-Binary-2.ensures, c.get-in-Binary.ensures, c.get-in-Binary-2.ensures) (sym e)

pub least_below-returns-in-Conditional : goal.least_below-returns-in-Conditional
least_below-returns-in-Conditional g t c =
    let h = g.R.Judge.places c.args.rule.now in
    let x = c.in-Conditional.condition in
    let a = c.in-Conditional.met in
    let b = c.in-Conditional.unmet in
    let e = ap (λ (x : Expr). least (flat_map h (below x))) c.in-Conditional.is ∙ ap (λ (ps : List Expr). least (flat_map h ps)) (below-Conditional x a b)
    ∙ ap least (flat_map-append h (parts x) (parts a ++ parts b) ∙ ap (λ (ps : List ℕ). at_parts h x ++ ps) (flat_map-append h (parts a) (parts b)))
    ∙ least_append (at_parts h x) (at_parts h a ++ at_parts h b) ∙ ap (earlier (least (at_parts h x))) (least_append (at_parts h a) (at_parts h b)) in
    rw (c.earlier-in-Conditional.ensures, c.earlier-arms.ensures, c.least_over-in-Conditional.ensures, c.least_over-in-Conditional-2.ensures, c.least_over-in-Conditional-3.ensures, c.get-in-Conditional.ensures, c.get-in-Conditional-2.ensures, c.get-in-Conditional-3.ensures) (sym e)

pub least_over_all-loop-part-preserved : goal.least_over_all-loop-part-preserved
least_over_all-loop-part-preserved g t c =
    rw (c.earlier-found.ensures, c.least_over.ensures)
    (each_next (at_parts (g.R.Judge.places c.args.rule.now)) c.loop-part.found c.args.parts.now c.loop-part.part-index c.part-item.result _ c.loop-part-test.true c.part-item.is c.loop-part.invariant)
