use Rattle.std.proofs.Common.{◌≡◌, map, take}
use Rattle.tie_desc.specs.Slots.{access}
use Rattle.tie_desc.proofs.operands.accesses.Given as goal

abbrev pub invariant-loop-operand : goal.invariant-loop-operand
invariant-loop-operand l = l.args.items ≡ map access (take l.operand-index l.operands)
