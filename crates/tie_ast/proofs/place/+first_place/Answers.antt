use Rattle.std.proofs.Common.{sym, ap, ◌∙◌}
use Rattle.tie_grammar.specs.Spelling.{expr, begins_at}
use Rattle.tie_grammar.proofs.Places.{begins_binary, begins_conditional}
use Rattle.tie_ast.proofs.place.+first_place.Goals as goal

pub returns-in-Binary : goal.returns-in-Binary
returns-in-Binary t c =
    ap (λ x. begins_at (expr x)) c.in-Binary.is
    ∙ begins_binary c.in-Binary.field-0 c.in-Binary.left c.in-Binary.field-2 c.first_place.result (ap (λ x. begins_at (expr x)) (sym c.get.ensures) ∙ c.first_place.ensures)

pub returns-in-Conditional : goal.returns-in-Conditional
returns-in-Conditional t c =
    ap (λ x. begins_at (expr x)) c.in-Conditional.is
    ∙ begins_conditional c.in-Conditional.condition c.in-Conditional.field-1 c.in-Conditional.field-2 c.first_place-in-Conditional.result
    (ap (λ x. begins_at (expr x)) (sym c.get-in-Conditional.ensures) ∙ c.first_place-in-Conditional.ensures)
