use Rattle.tie_lexer.proofs.Law.{one_list}
use Rattle.tie_lexer.proofs.one_tokens.Goals as goal

pub returns : goal.returns
returns c = one_list
