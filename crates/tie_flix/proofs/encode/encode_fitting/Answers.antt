use Rattle.tie_flix.proofs.Firsts.{all_fit}
use Rattle.tie_flix.proofs.encode.encode_fitting.Goals as goal

pub word_bytes-requires-clause-fit : goal.word_bytes-requires-clause-fit
word_bytes-requires-clause-fit c = all_fit c.args.desc.now c.args.format.now.slots c.args.parts.now c.requires.count c.requires.listed c.requires.fit

pub returns-in-None : goal.returns-in-None
returns-in-None c =
    ((all_fit c.args.desc.now c.args.format.now.slots c.args.parts.now c.requires.count c.requires.listed c.requires.fit, c.in-None.ensures), c.word_bytes.ensures)
