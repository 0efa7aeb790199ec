use Rattle.std.proofs.Common.{◌≡◌, ℕ, Some, slice_get, arith}
use Rattle.std.proofs.lemmas.Grind.{common_steps}
use Rattle.std.proofs.lemmas.Option.{slice_get_within}
use Rattle.std.proofs.lemmas.List.{length-take}
use Rattle.xt_exec.proofs.stepping.fetched.Goals as goal

pub returns-in-Some-Some-clause-spelled : goal.returns-in-Some-Some-clause-spelled
returns-in-Some-Some-clause-spelled c =
    let here : slice_get c.args.kit.now.image.at c.args.arch.now.pc ≡ Some (Some c.in-Some-Some.found) = grind (arith, common_steps) in
    (c.requires.image.each c.args.arch.now.pc (Some c.in-Some-Some.found) here).has

pub returns-in-Some-Some-clause-below : goal.returns-in-Some-Some-clause-below
returns-in-Some-Some-clause-below c =
    let here : slice_get c.args.kit.now.image.at c.args.arch.now.pc ≡ Some (Some c.in-Some-Some.found) = grind (arith, common_steps) in
    let lt = slice_get_within c.args.kit.now.image.at c.args.arch.now.pc (Some c.in-Some-Some.found) here in
    omega (arith, lt, c.requires.image.long, length-take {A = ℕ}, c.memory_len-size.ensures.value, c.memory_len-size.ensures.small)
