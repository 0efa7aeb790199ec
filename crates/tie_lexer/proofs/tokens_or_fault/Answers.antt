use Rattle.tie_lexer.proofs.Total as total
use Rattle.tie_lexer.proofs.tokens_or_fault.Goals as goal

pub returns : goal.returns
returns c = total.tokens_or_fault
