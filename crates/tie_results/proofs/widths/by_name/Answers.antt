use Rattle.std.proofs.Common.{ℕ, List, length, take, map, sym, ap, ◌∙◌, arith}
use Rattle.std.specs.Option.{unwrap_or}
use Rattle.tie_mean.specs.Kept.{kept}
use Rattle.tie_results.specs.Texts.{shown}
use Rattle.tie_results.proofs.Declared.{widths_more, width_all}
use Rattle.tie_results.proofs.widths.by_name.Goals as goal

pub loop-name-preserved : goal.loop-name-preserved
loop-name-preserved c =
    widths_more c.loop-name.widths c.keep_first.new.values c.args.declared.now c.loop-name.name-index c.loop-name-item.result c.loop-name-test.true c.loop-name-item.is c.loop-name.invariant c.in_ok-keep_first.ensures

pub returns : goal.returns
returns c = width_all c.loop-name.widths c.args.declared.now c.loop-name.name-index c.loop-name-test.false c.loop-name.invariant
