use Rattle.std.proofs.Common.{false}
use Rattle.std.proofs.lemmas.Result.{IfOk-weaker}
use Rattle.kahn_law.proofs.MachineLemmas.{without_clocks}
use Rattle.kahn_law.proofs.plain.run_ref.Goals as goal

pub returns-clause-reference : goal.returns-clause-reference
returns-clause-reference c = IfOk-weaker c.run.result _ _ (λ places h w. without_clocks c.args.net.now false c.args.rounds places.items h w) c.run.ensures
