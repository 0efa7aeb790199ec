use Rattle.std.proofs.Common.{◌≡◌, ◌≤◌, ◌+◌, drop, map, sum}
use Rattle.tie_mean.specs.Counts as spec
use Rattle.tie_mean.proofs.count.+count.Given as goal

abbrev pub invariant-arguments_count-loop-i : goal.invariant-arguments_count-loop-i
invariant-arguments_count-loop-i g l =
    (l.total ≤ 5000)
    × (spec.limited (l.total + spec.weighted ((g.C.NameCounts.counts l.c).times l.name.bytes) l.i (map (spec.count (g.C.NameCounts.counts l.c)) (drop l.i l.arguments)))
    ≡ spec.limited (spec.weighted ((g.C.NameCounts.counts l.c).times l.name.bytes) 0 (map (spec.count (g.C.NameCounts.counts l.c)) l.arguments)))

abbrev pub invariant-counts-loop-part : goal.invariant-counts-loop-part
invariant-counts-loop-part g l =
    (l.total ≤ 5000)
    × (spec.limited (l.total + sum (map (spec.count (g.C.NameCounts.counts l.c)) (drop l.part-index l.parts))) ≡ spec.limited (sum (map (spec.count (g.C.NameCounts.counts l.c)) l.parts)))
