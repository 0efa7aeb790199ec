use Rattle.tie_desc.specs.Mnemonics.{is_core_mnemonic, core_mnemonics}
use Rattle.tie_rules.proofs.mnemonics.is_core_mnemonic.Goals as goal

pub returns : goal.returns
unfolding is_core_mnemonic core_mnemonics
returns c = c.some.ensures
