use Rattle.std.proofs.lemmas.Result.{IfOk-weaker}
use Rattle.net_ref.proofs.rounds.round.Goals as goal

pub returns-clause-round : goal.returns-clause-round
returns-clause-round c =
    IfOk-weaker c.turn_collectors.result _ _
    (λ moved h nodes shows. h c.args.bounded nodes (c.in_ok-sources.ensures.part nodes (c.in_ok-cores.ensures.part nodes shows))) c.turn_collectors.ensures.part
