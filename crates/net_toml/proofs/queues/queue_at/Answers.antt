use Rattle.std.proofs.Common.{◌∙◌, refl}
use Rattle.std.proofs.lemmas.Result.{err_from_is_err_and}
use Rattle.toml.specs.View.{table_view}
use Rattle.net_toml.specs.Earlier.{names_in}
use Rattle.net_toml.specs.Tables.{queue_at}
use Rattle.net_toml.proofs.Steps.{Names-through}
use Rattle.net_toml.proofs.queues.queue_at.Goals as goal

pub returns-in_err-from-clause-value : goal.returns-in_err-from-clause-value
unfolding queue_at
returns-in_err-from-clause-value c =
    let p = err_from_is_err_and c.from_residual-in_err-from.result c.from_residual-in_err-from.ensures.1 in
    let place = c.as_str-place.ensures.value ∙ c.in_ok-place.ensures in
    let name = rw place at c.in_ok-name.ensures.value in
    let capacity = rw place at c.in_ok-capacity.ensures.value in
    let from = rw place at c.in_err-from.ensures in
    rw (p.1, p.2) (Names-through c.in_err-from.field-0.0 _ (queue_at (names_in c.args.names.now) c.args.index (table_view c.args.table.now)) from (λ rule key broken. rw (name, capacity, broken) refl))

pub returns-in_err-to-clause-value : goal.returns-in_err-to-clause-value
unfolding queue_at
returns-in_err-to-clause-value c =
    let p = err_from_is_err_and c.from_residual-in_err-to.result c.from_residual-in_err-to.ensures.1 in
    let place = c.as_str-place.ensures.value ∙ c.in_ok-place.ensures in
    let name = rw place at c.in_ok-name.ensures.value in
    let capacity = rw place at c.in_ok-capacity.ensures.value in
    let from = rw place at c.in_ok-from.ensures in
    let to = rw place at c.in_err-to.ensures in
    rw (p.1, p.2) (Names-through c.in_err-to.field-0.0 _ (queue_at (names_in c.args.names.now) c.args.index (table_view c.args.table.now)) to (λ rule key broken. rw (name, capacity, from, broken) refl))
