use Rattle.std.proofs.Common.{arith, subst}
use Rattle.std.proofs.lemmas.Grind.{common_steps}
use Rattle.xt_operate.specs.Bounds.{HasNumber}
use Rattle.xt_exec.proofs.Shapes.{file_width_is, state_width_is}
use Rattle.xt_exec.proofs.places.word_at.Goals as goal

pub returns-in-State : goal.returns-in-State
returns-in-State c =
    let d = c.args.desc.now in
    let place = subst (λ k. HasNumber d k c.args.bound.now.number) c.in-State.is c.requires.bound.number in
    let same = state_width_is d c.args.arch.now c.in-State.state c.requires.shape place in
    grind (arith, common_steps)

pub returns-in-File : goal.returns-in-File
returns-in-File c =
    let d = c.args.desc.now in
    let place = subst (λ k. HasNumber d k c.args.bound.now.number) c.in-File.is c.requires.bound.number in
    let same = file_width_is d c.args.arch.now c.in-File.file c.requires.shape place.0 in
    grind (arith, common_steps)
