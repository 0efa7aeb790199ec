use Rattle.std.proofs.Common.{◌≡◌, ℕ, List, take}
use Rattle.std.specs.List.{list_any}
use Rattle.tie_mean.specs.Kept.{met}
use Rattle.tie_rules.specs.NameSets.{has_name}
use Rattle.tie_rules.proofs.again.names_in.Given as goal

abbrev pub invariant-loop-x : goal.invariant-loop-x
invariant-loop-x g l = (q : List ℕ) → met l.found q ≡ list_any (has_name (g.N.Named.name l.named) q) (take l.x-index l.xs)
