use Rattle.std.proofs.Common.{◌≡◌, take, map}
use Rattle.tie_describe.proofs.each.make_all.Given as goal

abbrev pub invariant-loop-x : goal.invariant-loop-x
invariant-loop-x g l = l.made.items ≡ map (g.M.Make.made l.make) (take l.x-index l.xs)
