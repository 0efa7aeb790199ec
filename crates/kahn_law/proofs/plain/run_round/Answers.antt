use Rattle.kahn_law.specs.Machines.{nodes_of}
use Rattle.kahn_law.proofs.MachineLemmas.{next_turns}
use Rattle.kahn_law.proofs.plain.run_round.Goals as goal

pub loop-w-preserved : goal.loop-w-preserved
loop-w-preserved c = next_turns c.args.net.now c.args.bounded (nodes_of c.args.places.now) (nodes_of c.loop-w.places) (nodes_of c.take_turn.new.places) c.loop-w.w c.loop-w.invariant c.in_ok-take_turn.ensures
