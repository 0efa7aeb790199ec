use Rattle.xt_exec.proofs.Kept.{made_acts}
use Rattle.xt_exec.proofs.stepping.step.Goals as goal

pub returns-in-Some-clause-made : goal.returns-in-Some-clause-made
returns-in-Some-clause-made c =
    made_acts c.args.kit.now c.args.arch.now c.args.heads.now c.in-Some.found.now.bundle c.in-Some.found.now.length c.act.result c.act.new.arch
    c.requires.made c.act.ensures
