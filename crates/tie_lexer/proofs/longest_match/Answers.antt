use Rattle.tie_lexer.proofs.Alone.{token_alone}
use Rattle.tie_lexer.proofs.Longest.{longest}
use Rattle.tie_lexer.proofs.longest_match.Goals as goal

pub returns-clause-alone : goal.returns-clause-alone
returns-clause-alone c = token_alone

pub returns-clause-longest : goal.returns-clause-longest
returns-clause-longest c = λ text kind other n m token more within longer. longest text kind other n m token.0 more within longer.0
