use Rattle.std.proofs.Common.{◌≡◌, false, true, ap, sym, ◌∙◌}
use Rattle.std.specs.Option.{is_some}
use Rattle.tie_mean.specs.Kept.{kept}
use Rattle.tie_results.proofs.Gathered.{leaf_passes}
use Rattle.tie_results.proofs.body.last_setters.Goals as goal

pub unreachable-requires : goal.unreachable-requires
unreachable-requires c =
    let some = leaf_passes (λ name. is_some (kept c.args.setters.now name)) c.args.outputs.now c.loop-output.output-index c.output-item.result c.loop-output-test.true c.output-item.is c.requires in
    let none = ap is_some c.in-None.ensures in
    let no : false ≡ true = none ∙ some in
    absurd cc
