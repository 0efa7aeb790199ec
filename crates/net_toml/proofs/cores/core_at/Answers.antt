use Rattle.std.proofs.Common.{◌∙◌, refl}
use Rattle.std.proofs.lemmas.Result.{err_from_is_err_and}
use Rattle.toml.specs.View.{table_view}
use Rattle.net_toml.specs.Earlier.{names_in}
use Rattle.net_toml.specs.Tables.{core_at}
use Rattle.net_toml.proofs.Steps.{Names-through}
use Rattle.net_toml.proofs.cores.core_at.Goals as goal

pub returns-in_err-budget-clause-value : goal.returns-in_err-budget-clause-value
unfolding core_at
returns-in_err-budget-clause-value c =
    let p = err_from_is_err_and c.from_residual-in_err-budget.result c.from_residual-in_err-budget.ensures.1 in
    let place = c.as_str-place.ensures.value ∙ c.in_ok-place.ensures in
    let name = rw place at c.in_ok-name.ensures.value in
    let image = rw place at c.in_ok-image.ensures in
    let tie = rw place at c.in_ok-tie.ensures in
    let memory = rw place at c.in_ok-memory.ensures.value in
    let budget = rw place at c.in_err-budget.ensures.value in
    rw (p.1, p.2) (Names-through c.in_err-budget.field-0.0 _ (core_at (names_in c.args.names.now) c.args.index (table_view c.args.table.now)) budget (λ rule key broken. rw (name, image, tie, memory, broken) refl))
