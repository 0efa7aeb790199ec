use Rattle.tie_lexer.proofs.Standing.{in_text, in_order, spelled, alone}
use Rattle.tie_lexer.proofs.tokens_stand.Goals as goal

pub returns-clause-in_text : goal.returns-clause-in_text
returns-clause-in_text c = in_text

pub returns-clause-in_order : goal.returns-clause-in_order
returns-clause-in_order c = in_order

pub returns-clause-spelled : goal.returns-clause-spelled
returns-clause-spelled c = spelled

pub returns-clause-alone : goal.returns-clause-alone
returns-clause-alone c = alone
