-- The nodes after a move: the one at w made it, and the others stay.
use Rattle.std.proofs.Common.{get_or}
use Rattle.std.proofs.lemmas.Option.{slice_get-get_or}
use Rattle.kahn_law.specs.Machines.{turn_of, nodes_of}
use Rattle.kahn_law.proofs.MachineLemmas.{turn_made_node}
use Rattle.kahn_law.proofs.plain.take_turn.Goals as goal

pub returns-in_ok-make : goal.returns-in_ok-make
returns-in_ok-make c =
    let places = c.args.places.now in
    let w = c.args.w in
    let d = c.index-places-w.result in
    turn_made_node places w (get_or places w d) c.make.new.self c.in-Some.m (turn_of c.args.net.now c.args.bounded (nodes_of places) w) c.requires.place (slice_get-get_or places w d c.requires.place) c.in_ok-make.ensures c.in-Some.ensures
