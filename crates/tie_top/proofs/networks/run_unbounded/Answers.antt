use Rattle.tie_report.specs.net_ref.Reference.{IsReference}
use Rattle.tie_top.proofs.CommandSteps.{at_stop}
use Rattle.tie_top.proofs.networks.run_unbounded.Goals as goal

pub returns : goal.returns
returns c = at_stop IsReference c.args.net.now c.in-Ok.end c.report_of.result c.in-Ok.ensures.stop c.report_of.ensures
