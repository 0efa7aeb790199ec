use Rattle.std.proofs.Common.{◌≡◌, drop}
use Rattle.asm_rules.specs.Rules.{first_in, unknown_operation}
use Rattle.asm_rules.proofs.breach.unknown_operations.Given as goal

abbrev pub invariant-loop-operation : goal.invariant-loop-operation
invariant-loop-operation l = first_in unknown_operation (drop l.operation-index l.operations) ≡ first_in unknown_operation l.operations
