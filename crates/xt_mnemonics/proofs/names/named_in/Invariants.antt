use Rattle.std.proofs.Common.{◌≡◌, drop}
use Rattle.xt_mnemonics.specs.Names.{named_in}
use Rattle.xt_mnemonics.proofs.names.named_in.Given as goal

abbrev pub invariant-loop-mnemonic : goal.invariant-loop-mnemonic
invariant-loop-mnemonic l = named_in l.word (drop l.mnemonic-index l.mnemonics) ≡ named_in l.word l.mnemonics
