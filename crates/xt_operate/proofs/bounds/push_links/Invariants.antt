use Rattle.std.proofs.Common.{◌≡◌, ◌++◌, map, take}
use Rattle.xt_operate.specs.Bounds.{link_bound}
use Rattle.xt_operate.proofs.bounds.push_links.Given as goal

-- the operands so far
abbrev pub invariant-loop-link : goal.invariant-loop-link
invariant-loop-link l = l.out.items ≡ l.fn.out.items ++ map link_bound (take l.link-index l.links)
