use Rattle.std.proofs.Common.{◌≡◌, drop, take}
use Rattle.tie_rules.specs.Least.{earlier, least, behind, behind_from}
use Rattle.tie_rules.proofs.each.least_behind.Given as goal

abbrev pub invariant-loop-i : goal.invariant-loop-i
invariant-loop-i g l =
    earlier l.found (least (behind_from (g.R.JudgeBehind.places l.rule) (take l.i l.xs) (drop l.i l.xs))) ≡ least (behind (g.R.JudgeBehind.places l.rule) l.xs)
