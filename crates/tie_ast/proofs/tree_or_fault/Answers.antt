use Rattle.tie_ast.proofs.ParseLaw.{tree_or_fault as answered}
use Rattle.tie_ast.proofs.tree_or_fault.Goals as goal

pub returns : goal.returns
returns c = answered
