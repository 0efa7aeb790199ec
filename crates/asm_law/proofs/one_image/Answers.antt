use Rattle.asm_law.proofs.SameDescription.{one_image}
use Rattle.asm_law.proofs.one_image.Goals as goal

pub returns : goal.returns
returns c = λ text source d e p q. one_image text d e p q source
