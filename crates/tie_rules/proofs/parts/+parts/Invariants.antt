use Rattle.std.proofs.Common.{◌≡◌, drop}
use Rattle.std.specs.List.{flat_map}
use Rattle.tie_rules.specs.Least.{earlier, least}
use Rattle.tie_rules.specs.Parts.{at_parts}
use Rattle.tie_rules.proofs.parts.+parts.Given as goal

abbrev pub invariant-least_over_all-loop-part : goal.invariant-least_over_all-loop-part
invariant-least_over_all-loop-part g l =
    earlier l.found (least (flat_map (at_parts (g.R.Judge.places l.rule)) (drop l.part-index l.parts))) ≡ least (flat_map (at_parts (g.R.Judge.places l.rule)) l.parts)
