use Rattle.std.proofs.Common.{◌≡◌, drop}
use Rattle.std.specs.List.{list_any}
use Rattle.tie_describe.specs.Operations.{link_used_late}
use Rattle.tie_describe.proofs.stages.link_used_late.Given as goal

abbrev pub invariant-loop-x : goal.invariant-loop-x
invariant-loop-x l = list_any (link_used_late l.items) (drop l.x-index l.links) ≡ list_any (link_used_late l.items) l.links
