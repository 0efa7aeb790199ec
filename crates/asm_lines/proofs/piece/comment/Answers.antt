use Rattle.std.proofs.Common.{◌≡◌, ◌<◌, ◌≤◌, length, true, false, not, get_or, refl, ap, subst, sym, ◌∙◌, arith, ℕ}
use Rattle.std.specs.Prelude.{◌==◌}
use Rattle.std.proofs.lemmas.List.Sums.{prefix_len-le-length}
use Rattle.asm_lines.specs.Tokens.{line_len}
use Rattle.asm_lines.proofs.Words.{front_some, has_first}
use Rattle.asm_lines.proofs.piece.comment.Goals as goal

pub returns-clause-within : goal.returns-clause-within
returns-clause-within c =
    let bytes = c.args.bytes.now in
    let first : get_or bytes 0 0 ≡ 35 = c.requires in
    let no_end : not (get_or bytes 0 0 == 10) ≡ true = ap (λ b. not (b == 10)) first in
    let some : 0 < length bytes = has_first bytes (omega arith) in
    let n = front_some (λ b. not (b == 10)) bytes some no_end in
    let most = prefix_len-le-length (λ b. not (b == 10)) bytes in
    (omega (arith, c.line_len.ensures, n), omega (arith, c.line_len.ensures, most))
