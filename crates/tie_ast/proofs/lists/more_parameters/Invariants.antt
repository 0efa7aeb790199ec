use Rattle.std.proofs.Common.{◌≡◌, ◌+◌, ◌-◌, ◌∷◌, [], length}
use Rattle.tie_grammar.specs.Reading.{list_from, after_comma}
use Rattle.tie_grammar.specs.Decls.{parameter}
use Rattle.tie_ast.proofs.lists.more_parameters.Given as goal

abbrev pub invariant-loop-turn : goal.invariant-loop-turn
invariant-loop-turn l = list_from (after_comma parameter) (length l.fn.rest + 1) (l.fn.first ∷ []) l.fn.rest ≡ list_from (after_comma parameter) (l.turns - l.turn) l.found l.rest
