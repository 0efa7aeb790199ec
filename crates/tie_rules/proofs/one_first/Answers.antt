use Rattle.tie_rules.specs.RuleBook.{rules}
use Rattle.tie_rules.proofs.First.{is_one, none_first}
use Rattle.tie_rules.proofs.one_first.Goals as goal

pub returns-clause-one : goal.returns-clause-one
returns-clause-one c = λ tree k p l q a b. is_one 1 (rules tree) k p l q a b

pub returns-clause-none : goal.returns-clause-none
returns-clause-none c = λ tree k p h a. none_first 1 (rules tree) k p h a
