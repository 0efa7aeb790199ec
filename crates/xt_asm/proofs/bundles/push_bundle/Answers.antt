use Rattle.xt_asm.proofs.Faultless.{faultless}
use Rattle.xt_asm.proofs.bundles.push_bundle.Goals as goal

pub unreachable-requires : goal.unreachable-requires
unreachable-requires c = faultless c.args.desc.now c.args.bundle.now c.in-Err.field-0 c.requires c.in-Err.ensures
