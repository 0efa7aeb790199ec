use Rattle.std.proofs.Common.{◌≡◌, drop}
use Rattle.std.specs.List.{flat_map}
use Rattle.tie_rules.specs.Least.{earlier, least}
use Rattle.tie_rules.proofs.each.least_made.Given as goal

abbrev pub invariant-loop-x : goal.invariant-loop-x
invariant-loop-x g l = earlier l.found (least (flat_map (g.R.JudgeIn.places l.rule) (drop l.x-index l.xs))) ≡ least (flat_map (g.R.JudgeIn.places l.rule) l.xs)
