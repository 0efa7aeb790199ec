use Rattle.std.proofs.Common.{◌≡◌, ◌≤◌, drop, max, map}
use Rattle.tie_rules.specs.Schedules.{few, greatest}
use Rattle.tie_rules.proofs.each.greatest.Given as goal

abbrev pub invariant-loop-x : goal.invariant-loop-x
invariant-loop-x g l =
    (l.most ≤ 1000) × (few (max l.most (greatest (map (g.R.Measure.amount l.measure) (drop l.x-index l.xs)))) ≡ few (greatest (map (g.R.Measure.amount l.measure) l.xs)))
