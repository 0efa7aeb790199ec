use Rattle.std.proofs.Common.{◌≡◌, ◌+◌, ◌-◌, [], length}
use Rattle.tie_grammar.specs.declared.symbol.Mark.TheVariants as m
use Rattle.tie_grammar.specs.Reading.{list_from, until}
use Rattle.tie_grammar.specs.Items.{item}
use Rattle.tie_ast.proofs.items.items.Given as goal

abbrev pub invariant-loop-turn : goal.invariant-loop-turn
invariant-loop-turn l = list_from (until m.EndBrace (item l.depth)) (length l.fn.rest + 1) [] l.fn.rest ≡ list_from (until m.EndBrace (item l.depth)) (l.turns - l.turn) l.found l.rest
