use Rattle.std.proofs.Common.{◌≡◌, drop}
use Rattle.std.specs.List.{list_any}
use Rattle.tie_mean.specs.Names.{is_named}
use Rattle.tie_describe.proofs.stages.is_listed.Given as goal

abbrev pub invariant-loop-leaf : goal.invariant-loop-leaf
invariant-loop-leaf l = list_any (is_named l.name.bytes) (drop l.leaf-index l.leaves) ≡ list_any (is_named l.name.bytes) l.leaves
