use Rattle.std.proofs.Common.{◌≡◌, map, take}
use Rattle.xt_state.specs.State.{zero_file}
use Rattle.xt_state.proofs.bank.banks_of.Given as goal

-- the banks of the files so far
abbrev pub invariant-loop-width : goal.invariant-loop-width
invariant-loop-width l = l.banks.items ≡ map zero_file (take l.width-index l.files)
