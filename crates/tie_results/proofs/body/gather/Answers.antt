use Rattle.tie_mean.specs.Kept.{kept}
use Rattle.tie_results.specs.Plans.{is_there}
use Rattle.tie_results.specs.Callees.{body_of}
use Rattle.tie_results.proofs.Gathered.{leaf_passes, results_more}
use Rattle.tie_results.proofs.body.gather.Goals as goal

pub result_of-requires-clause-there : goal.result_of-requires-clause-there
result_of-requires-clause-there c =
    leaf_passes (λ name. is_there c.args.made.now (kept c.args.setters.now name)) c.args.outputs.now c.loop-output.output-index c.output-item.result c.loop-output-test.true c.output-item.is c.requires.there

pub loop-output-preserved : goal.loop-output-preserved
loop-output-preserved c =
    results_more (body_of c.args.frame.now) c.args.outputs.now c.loop-output.output-index c.output-item.result c.loop-output.results.items c.push.new.self.items c.in_ok-result_of.field-0
    c.loop-output-test.true c.output-item.is c.loop-output.invariant c.in_ok-result_of.ensures c.in_ok-push.ensures.items
