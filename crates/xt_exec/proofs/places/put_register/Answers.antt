use Rattle.std.proofs.Common.{arith}
use Rattle.std.proofs.lemmas.Grind.{common_steps}
use Rattle.xt_exec.proofs.Shapes.{register_bits, register_there}
use Rattle.xt_exec.proofs.places.put_register.Goals as goal

pub set_file-requires-clause-place : goal.set_file-requires-clause-place
set_file-requires-clause-place c = register_there c.args.desc.now c.args.arch.now c.args.f c.args.n c.args.value c.requires.shape c.requires.fits

pub returns : goal.returns
returns c =
    let same = register_bits c.args.desc.now c.args.arch.now c.args.f c.args.n c.args.value c.requires.shape c.requires.fits in
    grind (arith, common_steps)
