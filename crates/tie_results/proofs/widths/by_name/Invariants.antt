use Rattle.std.proofs.Common.{◌≡◌, ℕ, List, take, map}
use Rattle.tie_mean.specs.Kept.{kept}
use Rattle.tie_results.specs.Texts.{shown, first_width}
use Rattle.tie_results.proofs.widths.by_name.Given as goal

abbrev pub invariant-loop-name : goal.invariant-loop-name
invariant-loop-name l = (q : List ℕ) → kept l.widths q ≡ first_width (map shown (take l.name-index l.declared)) q
