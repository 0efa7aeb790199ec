use Rattle.std.proofs.Common.{◌≡◌, take}
use Rattle.std.specs.List.{flat_map}
use Rattle.tie_describe.proofs.each.pick_all.Given as goal

abbrev pub invariant-loop-x : goal.invariant-loop-x
invariant-loop-x g l = l.found.items ≡ flat_map (g.P.Pick.picked l.pick) (take l.x-index l.xs)
