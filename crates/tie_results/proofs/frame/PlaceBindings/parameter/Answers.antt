use Rattle.std.proofs.Common.{map}
use Rattle.tie_mean.specs.Names.{is_among, table_declared}
use Rattle.tie_results.specs.Texts.{tables_in}
use Rattle.tie_results.proofs.Times.{times_once}
use Rattle.tie_results.proofs.frame.PlaceBindings.parameter.Goals as goal

pub returns-clause-counted : goal.returns-clause-counted
returns-clause-counted c =
    times_once (is_among (map table_declared (tables_in c.args.self.now.frame.now.text.now))) c.args.self.now.frame.now.tree.now.declarations c.args.self.now.frame.now.declarations c.args.name.now.bytes c.args.number
