use Rattle.std.proofs.Common.{List, ap, ◌∙◌}
use Rattle.kahn_law.specs.declared.plain.Place.{Place}
use Rattle.kahn_law.specs.Machines.{nodes_of}
use Rattle.kahn_law.proofs.MachineLemmas.{small_in_round}
use Rattle.kahn_law.proofs.plain.run.Goals as goal

pub run_round-requires-clause-small : goal.run_round-requires-clause-small
run_round-requires-clause-small c m v le =
    small_in_round c.args.net.now c.args.bounded (nodes_of c.as_mut_slice.result.now) c.loop.counter c.requires
    (λ w. ap (λ (xs : List Place). nodes_of xs w) c.as_mut_slice.ensures.value ∙ c.loop.invariant.nodes w) m v le
