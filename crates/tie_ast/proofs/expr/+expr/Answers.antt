use Rattle.std.proofs.Common.{rules, arith, ◌+◌, length, sym, ◌∙◌}
use Rattle.std.proofs.lemmas.Grind.{common_steps}
use Rattle.tie_grammar.specs.Reading.{more_of}
use Rattle.tie_grammar.specs.Exprs.{expr, climbed}
use Rattle.tie_ast.proofs.Steps.{climb_more, climb_none, climb_loose, climb_end}
use Rattle.tie_ast.proofs.Turns.{comma_stop, comma_more, list_end}
use Rattle.tie_ast.proofs.expr.+expr.Goals as goal
use Rattle.tie_ast.proofs.expr.+expr.Goals.{climb-in_default-via-in-Some+else-least-level, climb-in_default-via-in_default}

pub climb-returns-in_err-right-in-Some : goal.climb-returns-in_err-right-in-Some
unfolding climbed
climb-returns-in_err-right-in-Some t c =
    let e = c.loop-turn.invariant ∙ climb_more (expr c.args.depth) c.args.least (length c.args.rest.now + 1) c.loop-turn.turn c.loop-turn.left c.loop-turn.rest.now c.in-Some.found (omega arith) (search rules) (omega arith) in
    first_of (search rules, grind (arith, common_steps))

pub climb-returns-in_default : goal.climb-returns-in_default
unfolding climbed
climb-returns-in_default t c =
    elim c.in_default.branch [
      | climb-in_default-via-in-Some+else-least-level w ↦
          c.loop-turn.invariant ∙ climb_loose (expr c.args.depth) c.args.least (length c.args.rest.now + 1) c.loop-turn.turn c.loop-turn.left c.loop-turn.rest.now w.in-Some.found (omega arith) (search rules) (omega arith)
      | climb-in_default-via-in_default w ↦
          c.loop-turn.invariant ∙ climb_none (expr c.args.depth) c.args.least (length c.args.rest.now + 1) c.loop-turn.turn c.loop-turn.left c.loop-turn.rest.now (omega arith) (sym c.operator.ensures ∙ w.in_default.is)
    ]

pub climb-loop-turn-preserved : goal.climb-loop-turn-preserved
climb-loop-turn-preserved t c =
    let e = c.loop-turn.invariant ∙ climb_more (expr c.args.depth) c.args.least (length c.args.rest.now + 1) c.loop-turn.turn c.loop-turn.left c.loop-turn.rest.now c.in-Some.found (omega arith) (search rules) (omega arith) in
    first_of (search rules, grind (arith, common_steps))

pub climb-returns : goal.climb-returns
unfolding climbed
climb-returns t c = c.loop-turn.invariant ∙ climb_end (expr c.args.depth) c.args.least (length c.args.rest.now + 1) c.loop-turn.turn c.loop-turn.left c.loop-turn.rest.now (omega arith)

pub more_exprs-returns-then-not-sees : goal.more_exprs-returns-then-not-sees
unfolding more_of
more_exprs-returns-then-not-sees t c =
    c.loop-turn.invariant ∙ comma_stop (expr c.args.depth 0) (length c.args.rest.now + 1) c.loop-turn.turn c.loop-turn.found c.loop-turn.rest.now (omega arith) (sym c.sees.ensures ∙ c.if-not-sees.true)

pub more_exprs-returns-in_err-next : goal.more_exprs-returns-in_err-next
unfolding more_of
more_exprs-returns-in_err-next t c =
    let e = c.loop-turn.invariant ∙ comma_more (expr c.args.depth 0) (length c.args.rest.now + 1) c.loop-turn.turn c.loop-turn.found c.loop-turn.rest.now (omega arith) (sym c.sees.ensures ∙ c.if-not-sees.false) in
    first_of (search rules, grind (arith, common_steps))

pub more_exprs-loop-turn-preserved : goal.more_exprs-loop-turn-preserved
more_exprs-loop-turn-preserved t c =
    let e = c.loop-turn.invariant ∙ comma_more (expr c.args.depth 0) (length c.args.rest.now + 1) c.loop-turn.turn c.loop-turn.found c.loop-turn.rest.now (omega arith) (sym c.sees.ensures ∙ c.if-not-sees.false) in
    first_of (search rules, grind (arith, common_steps))

pub more_exprs-returns : goal.more_exprs-returns
unfolding more_of
more_exprs-returns t c = c.loop-turn.invariant ∙ list_end _ (length c.args.rest.now + 1) c.loop-turn.turn c.loop-turn.found c.loop-turn.rest.now (omega arith)
