use Rattle.std.proofs.Common.{subst, sym}
use Rattle.xt_isa.specs.Table.{Fits}
use Rattle.xt_operate.proofs.SlotLemmas.{slot_fits}
use Rattle.xt_operate.proofs.parts.slot_instruction.Goals as goal

pub returns-clause-fits : goal.returns-clause-fits
returns-clause-fits c =
    subst Fits (sym c.instruction_of.ensures) (slot_fits c.args.desc.now c.args.part.now c.args.core c.requires.code c.requires.fits)
