use Rattle.std.proofs.Common.{◌∙◌}
use Rattle.tie_mean.proofs.Tables.{table_known}
use Rattle.tie_mean.proofs.scope.CountScopeNameCounts.is_table.Goals as goal

pub returns : goal.returns
returns c = c.has.ensures ∙ table_known c.args.self.now c.args.name.now.bytes c.requires.tables
