use Rattle.std.proofs.Common.{◌≡◌, map, take}
use Rattle.tie_ast.specs.Symbols.{symbol_of}
use Rattle.tie_ast.proofs.symbols.symbols.Given as goal

abbrev pub invariant-loop-token : goal.invariant-loop-token
invariant-loop-token l = l.found ≡ map (symbol_of l.text) (take l.token-index l.tokens)
