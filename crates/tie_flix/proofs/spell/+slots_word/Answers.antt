use Rattle.std.proofs.Common.{rules}
use Rattle.tie_flix.proofs.WordBounds.{slots_tail}
use Rattle.tie_flix.proofs.spell.+slots_word.Goals as goal

pub slots_word-requires : goal.slots_word-requires
slots_word-requires t c =
    (search rules, slots_tail c.args.desc.now c.args.slots.now c.args.parts.now c.in-len1-up.len_at_least c.in-len1-up-parts.len_at_least c.requires)
