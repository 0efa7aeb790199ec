use Rattle.std.proofs.Common.{◌≡◌, drop}
use Rattle.std.specs.List.{list_any}
use Rattle.tie_describe.specs.Operations.{is_late_def}
use Rattle.tie_describe.proofs.stages.is_defined_late.Given as goal

abbrev pub invariant-loop-item : goal.invariant-loop-item
invariant-loop-item l = list_any (is_late_def l.name.bytes) (drop l.item-index l.items) ≡ list_any (is_late_def l.name.bytes) l.items
