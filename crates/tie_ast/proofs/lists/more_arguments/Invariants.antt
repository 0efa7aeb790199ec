use Rattle.std.proofs.Common.{◌≡◌, ◌+◌, ◌-◌, ◌∷◌, [], length}
use Rattle.tie_grammar.specs.Reading.{list_from, after_comma}
use Rattle.tie_grammar.specs.Decls.{argument}
use Rattle.tie_ast.proofs.lists.more_arguments.Given as goal

abbrev pub invariant-loop-turn : goal.invariant-loop-turn
invariant-loop-turn l = list_from (after_comma argument) (length l.fn.rest + 1) (l.fn.first ∷ []) l.fn.rest ≡ list_from (after_comma argument) (l.turns - l.turn) l.found l.rest
