use Rattle.tie_report.specs.net_ref.Reference.{IsStrict}
use Rattle.tie_top.proofs.CommandSteps.{at_stop}
use Rattle.tie_top.proofs.networks.run_bounded.Goals as goal

pub returns : goal.returns
returns c = at_stop IsStrict c.args.net.now c.in-Ok.end c.report_of.result c.in-Ok.ensures.stop c.report_of.ensures
