use Rattle.std.proofs.Common.{◌≡◌, true, sym, ◌∙◌}
use Rattle.std.specs.Prelude.{nat_lt}
use Rattle.std.proofs.lemmas.Result.{IfOk-weaker}
use Rattle.tie_desc.proofs.Lists.{both_right}
use Rattle.net_ref.specs.Processor.{is_running}
use Rattle.net_ref.proofs.CoreTurns.{idle}
use Rattle.net_ref.proofs.Bundles.{gate_is, gate_closed}
use Rattle.net_ref.proofs.turns.core_turn.Goals as goal

pub returns-then-not-may_go-clause-turn : goal.returns-then-not-may_go-clause-turn
returns-then-not-may_go-clause-turn c n nodes t =
    idle c.args.bounded c.args.net.now n nodes c.args.core.now c.args.ports.now c.args.at.now c.args.channels.now t (sym c.may_go.ensures ∙ c.if-not-may_go.true)

pub returns-then-not-is_open-clause-turn : goal.returns-then-not-is_open-clause-turn
returns-then-not-is_open-clause-turn c n nodes t =
    let x = c.args.at.now in
    let running : is_running x.arch.ending ≡ true =
    both_right (nat_lt x.retired c.args.core.now.budget) (is_running x.arch.ending) (sym c.may_go.ensures ∙ c.if-not-may_go.false) in
    gate_closed c.args.bounded c.args.net.now n nodes c.args.core.now c.args.ports.now x c.args.channels.now c.needs-needs.result t running c.needs-needs.ensures
    (λ test f e table. sym c.if-not-is_open.true ∙ c.is_open.ensures test f e table)

pub returns-clause-turn : goal.returns-clause-turn
returns-clause-turn c =
    let x = c.args.at.now in
    let running : is_running x.arch.ending ≡ true =
    both_right (nat_lt x.retired c.args.core.now.budget) (is_running x.arch.ending) (sym c.may_go.ensures ∙ c.if-not-may_go.false) in
    IfOk-weaker c.take_bundle.result _ _
    (λ moved h n nodes t. h c.args.bounded c.args.net.now n nodes t
    (sym (gate_is c.args.bounded c.args.net.now n nodes c.args.core.now c.args.ports.now x c.args.channels.now c.needs-needs.result c.is_open.result t running c.needs-needs.ensures c.is_open.ensures)
    ∙ c.if-not-is_open.false))
    c.take_bundle.ensures.turn
