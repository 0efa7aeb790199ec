use Rattle.std.proofs.Common.{◌≡◌, ℕ, List, take}
use Rattle.std.specs.List.{flat_map}
use Rattle.tie_mean.specs.Kept.{kept}
use Rattle.tie_rules.specs.Widths.{found, either}
use Rattle.tie_rules.proofs.widths.keep_all.Given as goal

abbrev pub invariant-loop-x : goal.invariant-loop-x
invariant-loop-x g l =
    (q : List ℕ) → kept l.widths q ≡ either (kept l.initial.widths q) (found (flat_map (g.D.Keeps.declared l.keeps) (take l.x-index l.xs)) q)
