use Rattle.std.proofs.Common.{◌≡◌, Some, None, sym, ◌∙◌}
use Rattle.std.proofs.lemmas.Bool.{false≢true}
use Rattle.toml.specs.Parse.{parse_document}
use Rattle.toml.specs.View.{table_view}
use Rattle.toml.specs.Errors.{IsMemory}
use Rattle.net_toml.proofs.Texts.{plan_in-no_text, plan_in-no_table, plan_in-table}
use Rattle.net_toml.proofs.walk.read_net.Goals as goal

pub returns-in_default-clause-value : goal.returns-in_default-clause-value
returns-in_default-clause-value c = rw c.in_ok-key_at.ensures (plan_in-no_text c.args.bytes.now c.in_default.ensures.cases.0)

pub returns-in-Ok-table_from_str-clause-value : goal.returns-in-Ok-table_from_str-clause-value
returns-in-Ok-table_from_str-clause-value c =
    let same = c.in-Ok.ensures.cases.0 in
    let read : parse_document c.args.bytes.now ≡ Some (table_view c.in-Ok-table_from_str.table) = rw (← same) c.in-Ok-table_from_str.ensures.ok in
    rw (plan_in-table c.args.bytes.now _ c.in-Ok.ensures.cases.1 read) c.plan_of.ensures.value

pub returns-in_ok-key_at-in-Err-2-clause-value : goal.returns-in_ok-key_at-in-Err-2-clause-value
returns-in_ok-key_at-in-Err-2-clause-value c =
    let same = c.in-Ok.ensures.cases.0 in
    let refused : IsMemory c.in-Err.e → ⊥ = λ memory. false≢true (sym c.if-is_memory.false ∙ c.is_memory.ensures.1 memory) in
    let unread : parse_document c.args.bytes.now ≡ None = rw (← same) (c.in-Err.ensures.refused refused) in
    rw c.in_ok-key_at-in-Err-2.ensures (plan_in-no_table c.args.bytes.now unread)
