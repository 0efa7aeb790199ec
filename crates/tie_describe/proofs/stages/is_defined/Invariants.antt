use Rattle.std.proofs.Common.{◌≡◌, drop}
use Rattle.std.specs.List.{list_any}
use Rattle.tie_rules.specs.Schedules.{defines_operand}
use Rattle.tie_describe.proofs.stages.is_defined.Given as goal

abbrev pub invariant-loop-item : goal.invariant-loop-item
invariant-loop-item l = list_any (defines_operand l.name.bytes) (drop l.item-index l.items) ≡ list_any (defines_operand l.name.bytes) l.items
