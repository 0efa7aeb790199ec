use Rattle.tie_describe.proofs.Words.{slot_words}
use Rattle.tie_describe.proofs.formats.format.Goals as goal

pub make_all-requires : goal.make_all-requires
make_all-requires c = slot_words c.args.x.now.name c.args.x.now.slots c.as_slice.result.now c.as_slice.ensures c.requires
