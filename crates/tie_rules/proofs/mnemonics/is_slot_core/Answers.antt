use Rattle.tie_rules.specs.Declarations.{is_slot_core, slot_core_names}
use Rattle.tie_rules.proofs.mnemonics.is_slot_core.Goals as goal

pub returns : goal.returns
unfolding is_slot_core slot_core_names
returns c = c.some.ensures
