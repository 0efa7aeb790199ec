use Rattle.xt_exec.proofs.Shapes.{register_there}
use Rattle.xt_exec.proofs.places.register_of.Goals as goal

pub file-requires-clause-place : goal.file-requires-clause-place
file-requires-clause-place c = register_there c.args.desc.now c.args.arch.now c.args.f c.args.n 0 c.requires.shape c.requires.place
