use Rattle.std.proofs.Common.{◌≡◌, drop}
use Rattle.std.specs.List.{flat_map}
use Rattle.tie_rules.specs.Widths.{found}
use Rattle.tie_rules.proofs.widths.width_among.Given as goal

abbrev pub invariant-loop-x : goal.invariant-loop-x
invariant-loop-x g l =
    found (flat_map (g.D.Declares.declared l.declares) (drop l.x-index l.xs)) l.name.bytes ≡ found (flat_map (g.D.Declares.declared l.declares) l.xs) l.name.bytes
