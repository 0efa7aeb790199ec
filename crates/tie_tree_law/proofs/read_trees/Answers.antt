use Rattle.tie_tree_law.proofs.Words.{words, text}
use Rattle.tie_tree_law.proofs.read_trees.Goals as goal

pub returns-clause-text : goal.returns-clause-text
returns-clause-text c = text

pub returns-clause-words : goal.returns-clause-words
returns-clause-words c = words
