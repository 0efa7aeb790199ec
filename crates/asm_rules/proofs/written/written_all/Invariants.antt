use Rattle.std.proofs.Common.{◌≡◌, drop, ◌++◌}
use Rattle.std.specs.List.{flat_map}
use Rattle.asm_rules.specs.Slots.{written}
use Rattle.asm_rules.proofs.written.written_all.Given as goal

abbrev pub invariant-loop-operation : goal.invariant-loop-operation
invariant-loop-operation l = l.out.items ++ flat_map (written l.desc) (drop l.operation-index l.operations) ≡ flat_map (written l.desc) l.operations
