use Rattle.std.proofs.Common.{◌≡◌, ℕ, List, drop, take}
use Rattle.std.specs.List.{list_any}
use Rattle.tie_mean.specs.Kept.{met}
use Rattle.tie_rules.specs.Least.{earlier, least, behind, behind_from}
use Rattle.tie_rules.specs.NameSets.{lists_name, at_lists}
use Rattle.tie_rules.proofs.again.least_lists.Given as goal

abbrev pub invariant-loop-x : goal.invariant-loop-x
invariant-loop-x g l = record {
  names : (q : List ℕ) → met l.before q ≡ list_any (lists_name (g.R.JudgeLists.leaves l.rule) q) (take l.x-index l.xs);
  so_far : earlier l.found (least (behind_from (at_lists (g.R.JudgeLists.leaves l.rule) (g.R.JudgeLists.places l.rule)) (take l.x-index l.xs) (drop l.x-index l.xs)))
      ≡ least (behind (at_lists (g.R.JudgeLists.leaves l.rule) (g.R.JudgeLists.places l.rule)) l.xs);
}
