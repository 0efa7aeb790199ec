use Rattle.tie_ast.proofs.ParseLaw.{one_fault as unique, not_both}
use Rattle.tie_ast.proofs.one_fault.Goals as goal

pub returns-clause-place : goal.returns-clause-place
returns-clause-place c = unique

pub returns-clause-no_tree : goal.returns-clause-no_tree
returns-clause-no_tree c = not_both
