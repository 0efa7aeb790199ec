use Rattle.std.proofs.Common.{ap, ◌∙◌, arith}
use Rattle.tie_desc.specs.Spelling.{slots_word}
use Rattle.tie_flix.proofs.WordBounds.{bits_below, short_bits}
use Rattle.tie_flix.proofs.spell.format_word.Goals as goal

pub slots_word-bits-requires : goal.slots_word-bits-requires
slots_word-bits-requires c =
    let below = bits_below c.args.desc.now c.args.format.now c.args.parts.now c.facts.ensures c.requires.format c.requires.fit c.requires.room in
    let same = ap (λ ss. slots_word c.args.desc.now ss c.args.parts.now) c.as_slice.ensures in
    omega (arith, below, same)

pub joined-requires-clause-bits : goal.joined-requires-clause-bits
joined-requires-clause-bits c =
    let below = bits_below c.args.desc.now c.args.format.now c.args.parts.now c.facts.ensures c.requires.format c.requires.fit c.requires.room in
    let same = c.slots_word-bits.ensures ∙ ap (λ ss. slots_word c.args.desc.now ss c.args.parts.now) c.as_slice.ensures in
    omega (arith, below, same)

pub returns-clause-small : goal.returns-clause-small
returns-clause-small c = λ w.
    let below = short_bits c.args.desc.now c.args.format.now c.args.parts.now c.facts.ensures c.requires.format c.requires.fit c.requires.room w in
    let same = c.slots_word-bits.ensures ∙ ap (λ ss. slots_word c.args.desc.now ss c.args.parts.now) c.as_slice.ensures in
    c.joined.ensures.small (omega (arith, below, same))
