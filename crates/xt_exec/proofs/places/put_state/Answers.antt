use Rattle.std.proofs.Common.{arith}
use Rattle.std.proofs.lemmas.Grind.{common_steps}
use Rattle.xt_exec.proofs.Shapes.{state_bits}
use Rattle.xt_exec.proofs.places.put_state.Goals as goal

pub returns : goal.returns
returns c =
    let same = state_bits c.args.desc.now c.args.arch.now c.args.i c.args.value c.requires.shape c.requires.fits in
    grind (arith, common_steps)
