use Rattle.std.proofs.Common.{◌≡◌, drop}
use Rattle.std.specs.List.{find}
use Rattle.tie_rules.proofs.each.first.Given as goal

abbrev pub invariant-loop-x : goal.invariant-loop-x
invariant-loop-x g l = find (g.R.Test.holds l.test) (drop l.x-index l.xs) ≡ find (g.R.Test.holds l.test) l.xs
