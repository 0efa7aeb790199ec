use Rattle.std.specs.Prelude.{slice_get}
use Rattle.xt_dis.proofs.Fitting.{parts_fit}
use Rattle.xt_dis.proofs.operations.push_wide.Goals as goal

pub push_parts-requires : goal.push_parts-requires
push_parts-requires c = parts_fit c.args.desc.now (slice_get c.args.desc.now.formats c.args.format) c.args.parts.now c.requires
