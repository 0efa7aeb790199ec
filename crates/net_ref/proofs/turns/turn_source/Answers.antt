use Rattle.std.proofs.Common.{◌≡◌, ℕ, ◌≤◌, List, length, refl, sym, ap, ◌∙◌, arith}
use Rattle.std.specs.Prelude.{slice_get, slice_set}
use Rattle.std.proofs.lemmas.Option.{slice_get_read}
use Rattle.net_ref.specs.Workers.{source_queue}
use Rattle.net_ref.proofs.Wiring.{source_below}
use Rattle.net_ref.proofs.Others.{source_done}
use Rattle.net_ref.proofs.Places.{source_ports, source_port, room_asked, at_source, source_waits, source_pushes}
use Rattle.net_ref.proofs.turns.turn_source.Goals as goal

pub index-q-requires : goal.index-q-requires
index-q-requires c =
    let many = source_ports c.args.net.now c.args.ports.now c.requires.ports in
    let len = c.args.ports.now.sources.ok.0 in
    let lt = c.requires.worker in
    omega arith

pub returns-in_default-clause-turn : goal.returns-in_default-clause-turn
returns-in_default-clause-turn c nodes shows =
    let net = c.args.net.now in
    let t = at_source net nodes c.args.s c.index-pushed.result.now c.index.result.now c.args.run.now c.requires.net c.requires.whole shows c.requires.worker c.index.ensures c.index-pushed.ensures in
    let le : length c.deref.result.now ≤ c.index-pushed.result.now = c.in_default.ensures.lookup.3 in
    let len = ap length c.deref.ensures.value in
    source_done c.args.bounded net nodes c.args.s c.index-pushed.result.now c.index.result.now c.args.run.now t (omega arith)

pub room_if-requires-clause-channel : goal.room_if-requires-clause-channel
room_if-requires-clause-channel c =
    let net = c.args.net.now in
    let q_is : c.index-q.result.now ≡ source_queue net c.args.s = c.index-q.ensures ∙ source_port net c.args.ports.now c.args.s c.index-q.result.now c.requires.ports c.requires.worker in
    let below = source_below net c.args.s c.requires.net c.requires.worker in
    let many = c.requires.whole.channels in
    let same = ap length c.as_slice.ensures.value in
    omega arith

pub room_if-requires-clause-queue : goal.room_if-requires-clause-queue
room_if-requires-clause-queue c =
    let net = c.args.net.now in
    let q_is : c.index-q.result.now ≡ source_queue net c.args.s = c.index-q.ensures ∙ source_port net c.args.ports.now c.args.s c.index-q.result.now c.requires.ports c.requires.worker in
    let below = source_below net c.args.s c.requires.net c.requires.worker in
    let same = ap length c.as_slice-2.ensures.value in
    omega arith

pub returns-then-not-room_if-clause-turn : goal.returns-then-not-room_if-clause-turn
returns-then-not-room_if-clause-turn c nodes shows =
    let net = c.args.net.now in
    let t = at_source net nodes c.args.s c.index-pushed.result.now c.index.result.now c.args.run.now c.requires.net c.requires.whole shows c.requires.worker c.index.ensures c.index-pushed.ensures in
    let q_is : c.index-q.result.now ≡ source_queue net c.args.s = c.index-q.ensures ∙ source_port net c.args.ports.now c.args.s c.index-q.result.now c.requires.ports c.requires.worker in
    source_waits c.args.bounded net nodes c.args.s c.index-pushed.result.now c.index.result.now c.args.run.now t
    (room_asked c.args.bounded c.as_slice.result.now c.args.run.now.channels.items c.as_slice-2.result.now net.queues.items c.index-q.result.now (source_queue net c.args.s) c.room_if.result _
    c.room_if.ensures c.if-not-room_if.true c.as_slice.ensures.value c.as_slice-2.ensures.value q_is)

pub index_mut-requires : goal.index_mut-requires
index_mut-requires c =
    let net = c.args.net.now in
    let q_is : c.index-q.result.now ≡ source_queue net c.args.s = c.index-q.ensures ∙ source_port net c.args.ports.now c.args.s c.index-q.result.now c.requires.ports c.requires.worker in
    let below = source_below net c.args.s c.requires.net c.requires.worker in
    let many = c.requires.whole.channels in
    let len = c.args.run.now.channels.ok.0 in
    omega arith

pub returns-clause-turn : goal.returns-clause-turn
returns-clause-turn c nodes shows =
    let net = c.args.net.now in
    let run = c.args.run.now in
    let s = c.args.s in
    let n = c.index-pushed.result.now in
    let here = c.index.result.now in
    let q = source_queue net s in
    let t = at_source net nodes s n here run c.requires.net c.requires.whole shows c.requires.worker c.index.ensures c.index-pushed.ensures in
    let q_is : c.index-q.result.now ≡ q = c.index-q.ensures ∙ source_port net c.args.ports.now s c.index-q.result.now c.requires.ports c.requires.worker in
    let below = source_below net s c.requires.net c.requires.worker in
    let many = c.requires.whole.channels in
    let y = c.index_mut.result.now in
    let x = c.push.new.self in
    let at = slice_get_read run.channels.items (length net.queues.items) c.index-q.result.now y (sym many) (omega arith) c.index_mut.ensures.value in
    source_pushes c.args.bounded net nodes s n c.in-Some.item.now here x y run _ t
    (room_asked c.args.bounded c.as_slice.result.now run.channels.items c.as_slice-2.result.now net.queues.items c.index-q.result.now q c.room_if.result _
    c.room_if.ensures c.if-not-room_if.false c.as_slice.ensures.value c.as_slice-2.ensures.value q_is)
    (ap (λ (xs : List ℕ). slice_get xs n) (sym c.deref.ensures.value)
    ∙ slice_get_read c.deref.result.now (length c.deref.result.now) n c.in-Some.item.now refl c.in-Some.ensures.lookup.3.0 c.in-Some.ensures.lookup.1)
    (ap (slice_get run.channels.items) (sym q_is) ∙ at)
    c.in_ok-push.ensures.history c.in_ok-push.ensures.consumed refl refl refl (ap (λ (k : ℕ). slice_set run.channels.items k x) q_is)
