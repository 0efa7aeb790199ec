use Rattle.std.proofs.Common.{List, map, ap, ◌∙◌}
use Rattle.std.specs.Borrow.{Bor}
use Rattle.tie_mean.specs.Names.{is_among, table_declared}
use Rattle.tie_mean.proofs.Tables.{tables_stay}
use Rattle.tie_grammar.specs.declared.tree.Table.{Table}
use Rattle.tie_results.specs.Texts.{tables_in}
use Rattle.tie_results.proofs.frame.PlaceBindings.is_table.Goals as goal

pub returns-clause-counted : goal.returns-clause-counted
returns-clause-counted c =
    c.is_table.ensures ∙ ap (λ (xs : List (Bor Table)). is_among (map table_declared (map (λ x. x.now) xs)) c.args.name.now.bytes) c.deref.ensures.value
    ∙ tables_stay (is_among (map table_declared (tables_in c.args.self.now.frame.now.text.now))) c.args.self.now.frame.now.tree.now.declarations c.args.self.now.frame.now.declarations c.args.name.now.bytes
