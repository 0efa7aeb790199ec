use Rattle.std.proofs.Common.{◌≡◌, ℕ, List, take}
use Rattle.std.specs.List.{list_any}
use Rattle.tie_mean.specs.Kept.{met}
use Rattle.tie_rules.specs.NameSets.{lists_name}
use Rattle.tie_rules.proofs.again.leaves_in.Given as goal

abbrev pub invariant-loop-x : goal.invariant-loop-x
invariant-loop-x g l = (q : List ℕ) → met l.found q ≡ list_any (lists_name (g.L.Lists.leaves l.lists) q) (take l.x-index l.xs)
