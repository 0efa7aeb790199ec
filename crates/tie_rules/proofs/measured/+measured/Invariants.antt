use Rattle.std.proofs.Common.{◌≡◌, ◌≤◌, ◌+◌, drop, sum}
use Rattle.std.specs.List.{flat_map}
use Rattle.tie_mean.specs.Sizes.{limited}
use Rattle.tie_mean.specs.Values.{sizes}
use Rattle.tie_rules.specs.Bodies.{size_here}
use Rattle.tie_rules.specs.Least.{earlier, least}
use Rattle.tie_rules.specs.Parts.{at_parts}
use Rattle.tie_rules.proofs.measured.+measured.Given as goal

abbrev pub invariant-measured_all-loop-part : goal.invariant-measured_all-loop-part
invariant-measured_all-loop-part g l = record {
  low : l.total ≤ 4294967296;
  total : limited (l.total + sum (sizes (g.S.Scope.widths l.scope) (drop l.part-index l.parts))) ≡ limited (sum (sizes (g.S.Scope.widths l.scope) l.parts));
  place : earlier l.found (least (flat_map (at_parts (size_here (g.S.Scope.widths l.scope))) (drop l.part-index l.parts)))
      ≡ least (flat_map (at_parts (size_here (g.S.Scope.widths l.scope))) l.parts);
}
