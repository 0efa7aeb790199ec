use Rattle.std.proofs.Common.{get_or, ◌∙◌, arith}
use Rattle.std.proofs.lemmas.Option.{slice_get-get_or}
use Rattle.net_ref.proofs.Channels.{room_step}
use Rattle.net_ref.proofs.moves.has_room.Goals as goal

pub loop-o-preserved : goal.loop-o-preserved
loop-o-preserved c test f e table =
    let outs = c.args.outs.now in
    let o = c.loop-o.o in
    c.both-room.ensures
    ∙ room_step c.args.pushes outs c.args.channels.now c.args.queues.now o (get_or outs o 0) c.has_bit-pushed.result c.loop-o.room c.room_if-here.result
    (slice_get-get_or outs o 0 (omega arith)) c.has_bit-pushed.ensures c.room_if-here.ensures c.loop-o.invariant test f e table
