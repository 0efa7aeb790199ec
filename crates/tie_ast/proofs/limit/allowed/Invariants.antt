use Rattle.tie_ast.proofs.Scan.{IsScanned}
use Rattle.tie_ast.proofs.limit.allowed.Given as goal

abbrev pub invariant-loop-at : goal.invariant-loop-at
invariant-loop-at l = IsScanned l.symbols l.at l.opened
