use Rattle.std.proofs.Common.{◌≡◌, drop}
use Rattle.std.specs.List.{list_any}
use Rattle.tie_rules.proofs.each.some.Given as goal

abbrev pub invariant-loop-x : goal.invariant-loop-x
invariant-loop-x g l = list_any (g.R.Test.holds l.test) (drop l.x-index l.xs) ≡ list_any (g.R.Test.holds l.test) l.xs
