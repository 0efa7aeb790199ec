use Rattle.std.proofs.Common.{◌≡◌, ◌≤◌, ◌+◌, drop, map}
use Rattle.tie_rules.specs.Schedules.{few, total}
use Rattle.tie_rules.proofs.each.total.Given as goal

abbrev pub invariant-loop-x : goal.invariant-loop-x
invariant-loop-x g l =
    (l.sum ≤ 1000) × (few (l.sum + total (map (g.R.Measure.amount l.measure) (drop l.x-index l.xs))) ≡ few (total (map (g.R.Measure.amount l.measure) l.xs)))
