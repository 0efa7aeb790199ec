use Rattle.std.proofs.Common.{rules, arith}
use Rattle.std.proofs.lemmas.Grind.{common_steps}
use Rattle.xt_operate.specs.Bounds.{IsBound}
use Rattle.xt_operate.proofs.BoundLemmas.{rest_good, rest_widths, skip_widths}
use Rattle.xt_operate.proofs.words.+push_results.Goals as goal

pub push_results-requires : goal.push_results-requires
push_results-requires t c = (
  search rules,
  (
    grind (arith, common_steps),
    (
      rest_good (IsBound c.args.desc.now) c.args.bounds.now c.requires.bounds,
      (rest_widths c.args.desc.now c.args.bounds.now c.args.results.now _ c.if-bound.true c.requires.widths, c.push_result.ensures.fit),
    ),
  ),
)

pub push_results-requires-else-bound : goal.push_results-requires-else-bound
push_results-requires-else-bound t c = (
  search rules,
  (
    grind (arith, common_steps),
    (
      rest_good (IsBound c.args.desc.now) c.args.bounds.now c.requires.bounds,
      (skip_widths c.args.desc.now c.args.bounds.now _ _ c.if-bound.false c.requires.widths, c.requires.fit),
    ),
  ),
)
