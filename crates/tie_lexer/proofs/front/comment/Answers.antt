use Rattle.std.proofs.Common.{take, inr, arith, length-take}
use Rattle.std.proofs.lemmas.List.Sums.{prefix_len-le-length}
use Rattle.tie_lexer.specs.Bytes.{is_text_byte}
use Rattle.tie_lexer.proofs.front.comment.Goals as goal

pub returns-else-clean-n : goal.returns-else-clean-n
returns-else-clean-n c =
    let front = take c.args.n c.args.rest.now in
    inr (c.requires, omega (arith, prefix_len-le-length is_text_byte front, length-take c.args.n c.args.rest.now))
