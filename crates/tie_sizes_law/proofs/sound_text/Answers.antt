use Rattle.tie_sizes_law.proofs.Rules.{unbroken}
use Rattle.tie_sizes_law.proofs.Text.{text_sound}
use Rattle.tie_sizes_law.proofs.sound_text.Goals as goal

pub returns : goal.returns
returns c = λ t g h. text_sound t g (unbroken t h)
