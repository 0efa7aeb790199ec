use Rattle.std.proofs.Common.{◌≡◌, ◌+◌, ◌-◌, ◌*◌, ◌∷◌, [], length}
use Rattle.tie_grammar.specs.Reading.{list_from, after_comma}
use Rattle.tie_grammar.specs.Exprs.{climb, expr}
use Rattle.tie_ast.proofs.expr.+expr.Given as goal

abbrev pub decreases-bracketed : goal.decreases-bracketed
decreases-bracketed l = 8 * l.depth + 1

abbrev pub decreases-called : goal.decreases-called
decreases-called l = 8 * l.depth + 3

abbrev pub decreases-named : goal.decreases-named
decreases-named l = 8 * l.depth + 4

abbrev pub decreases-exprs : goal.decreases-exprs
decreases-exprs l = 8 * l.depth + 2

abbrev pub decreases-more_exprs : goal.decreases-more_exprs
decreases-more_exprs l = 8 * l.depth + 1

abbrev pub decreases-repeated : goal.decreases-repeated
decreases-repeated l = 8 * l.depth + 1

abbrev pub decreases-joined : goal.decreases-joined
decreases-joined l = 8 * l.depth + 2

abbrev pub decreases-braced : goal.decreases-braced
decreases-braced l = 8 * l.depth + 3

abbrev pub decreases-primary : goal.decreases-primary
decreases-primary l = 8 * l.depth + 5

abbrev pub decreases-climb : goal.decreases-climb
decreases-climb l = 8 * l.depth + 1

abbrev pub decreases-arms : goal.decreases-arms
decreases-arms l = 8 * l.depth + 1

abbrev pub decreases-expr : goal.decreases-expr
decreases-expr l = 8 * l.depth

abbrev pub invariant-climb-loop-turn : goal.invariant-climb-loop-turn
invariant-climb-loop-turn l =
    climb (expr l.depth) l.least (length l.fn.rest + 1) l.initial.left l.fn.rest ≡ climb (expr l.depth) l.least (l.turns - l.turn) l.left l.rest

abbrev pub invariant-more_exprs-loop-turn : goal.invariant-more_exprs-loop-turn
invariant-more_exprs-loop-turn l =
    list_from (after_comma (expr l.depth 0)) (length l.fn.rest + 1) (l.fn.first ∷ []) l.fn.rest ≡ list_from (after_comma (expr l.depth 0)) (l.turns - l.turn) l.found l.rest
