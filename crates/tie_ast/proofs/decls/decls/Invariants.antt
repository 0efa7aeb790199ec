use Rattle.std.proofs.Common.{◌≡◌, ◌+◌, ◌-◌, [], length}
use Rattle.tie_grammar.specs.Reading.{list_from, to_end}
use Rattle.tie_grammar.specs.Decls.{decl}
use Rattle.tie_ast.proofs.decls.decls.Given as goal

abbrev pub invariant-loop-turn : goal.invariant-loop-turn
invariant-loop-turn l = list_from (to_end (decl l.size)) (length l.fn.rest + 1) [] l.fn.rest ≡ list_from (to_end (decl l.size)) (l.turns - l.turn) l.found l.rest
