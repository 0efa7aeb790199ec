use Rattle.tie_lexer.proofs.Law.{fault_one, fault_or_tokens}
use Rattle.tie_lexer.proofs.one_fault.Goals as goal

pub returns-clause-rule : goal.returns-clause-rule
returns-clause-rule c = λ text r s p q f g. (fault_one text r s p q f g).0

pub returns-clause-place : goal.returns-clause-place
returns-clause-place c = λ text r s p q f g. (fault_one text r s p q f g).1

pub returns-clause-no_tokens : goal.returns-clause-no_tokens
returns-clause-no_tokens c = fault_or_tokens
