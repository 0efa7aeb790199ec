-- The clock of the next move: the machine's clock and the item's stamp are small.
use Rattle.std.proofs.Common.{◌<◌, ◌^◌, Some, refl, arith}
use Rattle.std.specs.Prelude.{slice_get}
use Rattle.kahn_law.specs.Machines.{writer_of}
use Rattle.kahn_law.proofs.MachineLemmas.{item_small}
use Rattle.kahn_law.proofs.plain.Machines.move_at.Goals as goal

pub move_of-requires-2-clause-clock : goal.move_of-requires-2-clause-clock
move_of-requires-2-clause-clock c =
    let net = c.args.self.now in
    let item = c.in_ok-item.item in
    let stamp : item.stamp < 2 ^ 63 = item_small net c.args.places.now (writer_of (slice_get net.queues.items c.in-Some.queue)) c.in-Some.queue c.consumed.result (Some item) item c.requires.small refl c.in_ok-item.ensures in
    omega arith
