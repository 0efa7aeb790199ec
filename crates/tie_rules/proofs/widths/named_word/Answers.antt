use Rattle.std.proofs.Common.{refl}
use Rattle.tie_rules.proofs.widths.named_word.Goals as goal

pub returns : goal.returns
returns c = c.named.ensures 32 refl
