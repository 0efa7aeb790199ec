use Rattle.std.proofs.Common.{◌≡◌, drop}
use Rattle.std.specs.List.{list_any}
use Rattle.tie_describe.specs.Operations.{argument_used_late}
use Rattle.tie_describe.proofs.stages.argument_used_late.Given as goal

abbrev pub invariant-loop-x : goal.invariant-loop-x
invariant-loop-x l = list_any (argument_used_late l.items) (drop l.x-index l.arguments) ≡ list_any (argument_used_late l.items) l.arguments
