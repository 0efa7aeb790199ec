use Rattle.std.proofs.Common.{◌∙◌, refl}
use Rattle.std.proofs.lemmas.Result.{err_from_is_err_and}
use Rattle.toml.specs.View.{table_view}
use Rattle.net_toml.specs.Earlier.{names_in}
use Rattle.net_toml.specs.Tables.{collector_at}
use Rattle.net_toml.proofs.Steps.{Names-through}
use Rattle.net_toml.proofs.sources.collector_at.Goals as goal

pub returns-in_err-name-clause-value : goal.returns-in_err-name-clause-value
unfolding collector_at
returns-in_err-name-clause-value c =
    let p = err_from_is_err_and c.from_residual-in_err-name.result c.from_residual-in_err-name.ensures.1 in
    let place = c.as_str-place.ensures.value ∙ c.in_ok-place.ensures in
    let broken_name = rw place at c.in_err-name.ensures.value in
    rw (p.1, p.2) (Names-through c.in_err-name.field-0.0 _ (collector_at (names_in c.args.names.now) c.args.index (table_view c.args.table.now)) broken_name (λ rule key broken. rw broken refl))

pub returns-in_err-limit-clause-value : goal.returns-in_err-limit-clause-value
unfolding collector_at
returns-in_err-limit-clause-value c =
    let p = err_from_is_err_and c.from_residual-in_err-limit.result c.from_residual-in_err-limit.ensures.1 in
    let place = c.as_str-place.ensures.value ∙ c.in_ok-place.ensures in
    let name = rw place at c.in_ok-name.ensures.value in
    let limit = rw place at c.in_err-limit.ensures.value in
    rw (p.1, p.2) (Names-through c.in_err-limit.field-0.0 _ (collector_at (names_in c.args.names.now) c.args.index (table_view c.args.table.now)) limit (λ rule key broken. rw (name, broken) refl))
