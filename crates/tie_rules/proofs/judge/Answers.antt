use Rattle.tie_rules.specs.RuleBook.{rules}
use Rattle.tie_rules.proofs.First.{judged_none, judged_first}
use Rattle.tie_rules.proofs.judge.Goals as goal

pub returns-clause-none : goal.returns-clause-none
returns-clause-none c = judged_none c.first_refused.result (rules c.args.tree.now) c.first_refused.ensures

pub returns-clause-first : goal.returns-clause-first
returns-clause-first c = λ k p is. judged_first c.first_refused.result (rules c.args.tree.now) c.first_refused.ensures k p is
