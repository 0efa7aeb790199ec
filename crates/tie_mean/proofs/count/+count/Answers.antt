use Rattle.std.proofs.Common.{◌+◌, ◌*◌, ◌∙◌, sym, ap, drop, map, arith}
use Rattle.tie_mean.specs.Counts as spec
use Rattle.tie_mean.proofs.CountLimits.{one_argument, weighted_more}
use Rattle.tie_mean.proofs.count.+count.Goals as goal

pub arguments_count-loop-i-preserved : goal.arguments_count-loop-i-preserved
arguments_count-loop-i-preserved g t c =
    let counts = g.C.NameCounts.counts c.args.c.now in
    let times = counts.times c.args.name.now.bytes in
    let f = spec.count counts in
    let xs = c.args.arguments.now in
    let i = c.loop-i.i in
    let rest = spec.weighted times (i + 1) (map f (drop (i + 1) xs)) in
    let n = f c.index-arguments-i.result in
    let total = c.loop-i.total in
    let r = c.bounded_count-total.result in
    let product = ap (λ a. a * c.count.result) c.times.ensures ∙ ap (λ b. spec.limited (times i) * b) c.count.ensures in
    let is = c.bounded_count-total.ensures ∙ ap (λ p. spec.limited (total + p)) product in
    let more = weighted_more times f xs i c.index-arguments-i.result c.loop-i-test.true in
    let here = ap (λ x. times i * f x + rest) (sym c.index-arguments-i.is) in (
      omega (arith, c.bounded_count-total.ensures),
      one_argument total r (times i) n rest is ∙ ap (λ w. spec.limited (total + w)) (sym (more ∙ here)) ∙ c.loop-i.invariant.1,
    )
