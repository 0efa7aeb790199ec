use Rattle.std.proofs.Common.{◌≡◌, drop}
use Rattle.std.specs.List.{flat_map}
use Rattle.tie_rules.specs.Least.{earlier, least}
use Rattle.tie_rules.specs.Bodies.{too_large_at}
use Rattle.tie_rules.proofs.sizes.too_large_among.Given as goal

abbrev pub invariant-loop-decl : goal.invariant-loop-decl
invariant-loop-decl l =
    earlier l.found (least (flat_map (too_large_at l.tree) (drop l.decl-index l.decls))) ≡ least (flat_map (too_large_at l.tree) l.decls)
