use Rattle.std.proofs.Common.{arith}
use Rattle.std.proofs.lemmas.Grind.{common_steps}
use Rattle.xt_operate.proofs.HeldLemmas.{file_kept, item_kept, output_kept, register_kept, state_kept}
use Rattle.xt_operate.proofs.parts.word_of.Goals as goal

pub returns-in-Ar : goal.returns-in-Ar
returns-in-Ar c =
    let same = register_kept c.args.desc.now c.args.reads.now.at c.args.bound.now.number c.requires.fit in grind (arith, common_steps)

pub returns-in-State : goal.returns-in-State
returns-in-State c =
    let same = state_kept c.args.desc.now c.args.reads.now.at c.in-State.state c.requires.fit in grind (arith, common_steps)

pub returns-in-File : goal.returns-in-File
returns-in-File c =
    let same = file_kept c.args.desc.now c.args.reads.now.at c.in-File.file c.args.bound.now.number c.requires.fit in grind (arith, common_steps)

pub returns-in-InQueue : goal.returns-in-InQueue
returns-in-InQueue c =
    let same = item_kept c.args.desc.now c.args.reads.now.at c.in-InQueue.queue c.requires.fit in grind (arith, common_steps)

pub returns-in-OutQueue : goal.returns-in-OutQueue
returns-in-OutQueue c =
    let same = output_kept c.args.desc.now c.args.reads.now.at c.in-OutQueue.queue c.requires.fit in grind (arith, common_steps)
