use Rattle.std.proofs.Common.{◌≡◌, ℕ, ◌||◌, List, take}
use Rattle.tie_mean.specs.Kept.{met}
use Rattle.tie_rules.specs.Names.{listed}
use Rattle.tie_rules.proofs.again.meet_all.Given as goal

abbrev pub invariant-loop-leaf : goal.invariant-loop-leaf
invariant-loop-leaf l = (q : List ℕ) → met l.before q ≡ (listed q (take l.leaf-index l.leaves) || met l.initial.before q)
