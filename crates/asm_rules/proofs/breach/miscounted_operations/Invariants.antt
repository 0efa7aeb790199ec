use Rattle.std.proofs.Common.{◌≡◌, drop}
use Rattle.asm_rules.specs.Rules.{first_in, miscounted_operation}
use Rattle.asm_rules.proofs.breach.miscounted_operations.Given as goal

abbrev pub invariant-loop-operation : goal.invariant-loop-operation
invariant-loop-operation l = first_in (miscounted_operation l.desc) (drop l.operation-index l.operations) ≡ first_in (miscounted_operation l.desc) l.operations
