use Rattle.std.proofs.Common.{length}
use Rattle.tie_flix.proofs.spell.+slots_word.Given as goal

abbrev pub decreases-slots_word : goal.decreases-slots_word
decreases-slots_word l = length l.slots.now
