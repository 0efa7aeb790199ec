use Rattle.tie_ast.proofs.ParseLaw.{one_tree as unique}
use Rattle.tie_ast.proofs.one_tree.Goals as goal

pub returns : goal.returns
returns c = unique
