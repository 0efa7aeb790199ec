use Rattle.std.proofs.Common.{◌≡◌, ℕ, ◌<◌, Vec, Global, Some, length, refl, sym, ap, subst, ◌∙◌, arith}
use Rattle.std.specs.Prelude.{slice_get, slice_set}
use Rattle.std.proofs.lemmas.Option.{slice_get_read}
use Rattle.net_ref.specs.declared.channel.Channel.{Channel}
use Rattle.net_ref.specs.Workers.{collector_queue}
use Rattle.net_ref.proofs.Lists.{some_same}
use Rattle.net_ref.proofs.Wiring.{collector_below}
use Rattle.net_ref.proofs.Others.{collector_done, collector_lacks}
use Rattle.net_ref.proofs.Places.{collector_ports, collector_port, at_collector, collector_takes}
use Rattle.net_ref.proofs.turns.turn_collector.Goals as goal

pub index-q-requires : goal.index-q-requires
index-q-requires c =
    let many = collector_ports c.args.net.now c.args.ports.now c.requires.ports in
    let len = c.args.ports.now.collectors.ok.0 in
    let lt = c.requires.worker in
    omega arith

pub returns-then-len-index-clause-turn : goal.returns-then-len-index-clause-turn
returns-then-len-index-clause-turn c bounded nodes shows =
    let net = c.args.net.now in
    let had = c.index.result.now in
    let here = c.index-2.result.now in
    let t = at_collector net nodes c.args.k had here c.args.run.now c.requires.net c.requires.whole shows c.requires.worker c.index-2.ensures c.index.ensures in
    let le = c.if-len-index.true in
    let is = c.len.ensures in
    let len = had.ok.0 in
    collector_done bounded net nodes c.args.k had here c.args.run.now t (omega arith)

pub index-requires-3 : goal.index-requires-3
index-requires-3 c =
    let net = c.args.net.now in
    let q_is : c.index-q.result.now ≡ collector_queue net c.args.k = c.index-q.ensures ∙ collector_port net c.args.ports.now c.args.k c.index-q.result.now c.requires.ports c.requires.worker in
    let below = collector_below net c.args.k c.requires.net c.requires.worker in
    let many = c.requires.whole.channels in
    let len = c.args.run.now.channels.ok.0 in
    omega arith

pub returns-in_default-clause-turn : goal.returns-in_default-clause-turn
returns-in_default-clause-turn c bounded nodes shows =
    let net = c.args.net.now in
    let run = c.args.run.now in
    let k = c.args.k in
    let had = c.index.result.now in
    let here = c.index-2.result.now in
    let y = c.index-3.result.now in
    let t = at_collector net nodes k had here run c.requires.net c.requires.whole shows c.requires.worker c.index-2.ensures c.index.ensures in
    let q_is : c.index-q.result.now ≡ collector_queue net k = c.index-q.ensures ∙ collector_port net c.args.ports.now k c.index-q.result.now c.requires.ports c.requires.worker in
    let below = collector_below net k c.requires.net c.requires.worker in
    let at = slice_get_read run.channels.items (length net.queues.items) c.index-q.result.now y (sym c.requires.whole.channels) (omega arith) c.index-3.ensures in
    collector_lacks bounded net nodes k had here run y t (ap (slice_get run.channels.items) (sym q_is) ∙ at) (sym c.head.ensures ∙ c.in_default.is)

pub index_mut-requires : goal.index_mut-requires
index_mut-requires c =
    let net = c.args.net.now in
    let q_is : c.index-q.result.now ≡ collector_queue net c.args.k = c.index-q.ensures ∙ collector_port net c.args.ports.now c.args.k c.index-q.result.now c.requires.ports c.requires.worker in
    let below = collector_below net c.args.k c.requires.net c.requires.worker in
    let many = c.requires.whole.channels in
    let len = c.args.run.now.channels.ok.0 in
    omega arith

pub returns-clause-turn : goal.returns-clause-turn
returns-clause-turn c bounded nodes shows =
    let net = c.args.net.now in
    let run = c.args.run.now in
    let k = c.args.k in
    let q = collector_queue net k in
    let had = c.index_mut-2.result.now in
    let now = c.push.new.self in
    let here = c.index-2.result.now in
    let v = c.in-Some.item in
    let x = c.take.new.self in
    let y = c.index_mut.result.now in
    let seen = c.index-3.result.now in
    let t = at_collector net nodes k had here run c.requires.net c.requires.whole shows c.requires.worker c.index-2.ensures c.index_mut-2.ensures.value in
    let first = at_collector net nodes k c.index.result.now here run c.requires.net c.requires.whole shows c.requires.worker c.index-2.ensures c.index.ensures in
    let same : c.index.result.now ≡ had = some_same c.index.result.now had (sym first.collected ∙ t.collected) in
    let q_is : c.index-q.result.now ≡ q = c.index-q.ensures ∙ collector_port net c.args.ports.now k c.index-q.result.now c.requires.ports c.requires.worker in
    let below = collector_below net k c.requires.net c.requires.worker in
    let lt : c.index-q.result.now < length net.queues.items = omega arith in
    let at = slice_get_read run.channels.items (length net.queues.items) c.index-q.result.now y (sym c.requires.whole.channels) lt c.index_mut.ensures.value in
    let at' = slice_get_read run.channels.items (length net.queues.items) c.index-q.result.now seen (sym c.requires.whole.channels) lt c.index-3.ensures in
    let item : slice_get y.history.items y.consumed ≡ Some v =
    subst (λ (z : Channel). slice_get z.history.items z.consumed ≡ Some v) (some_same seen y (sym at' ∙ at)) (sym c.head.ensures ∙ c.in-Some.is) in
    let few : length had.items < here.limit =
    let a = c.if-len-index.false in
    let b = c.len.ensures in
    let d = c.index.result.now.ok.0 in
    let e : length c.index.result.now.items ≡ length had.items = ap (λ (u : Vec ℕ Global). length u.items) same in
    omega arith in
    collector_takes bounded net nodes k v had now here x y run _ t few (ap (slice_get run.channels.items) (sym q_is) ∙ at) item
    (ap (λ u. u.items) c.take.ensures.history) c.take.ensures.consumed c.in_ok-push.ensures.items refl refl refl (ap (λ (j : ℕ). slice_set run.channels.items j x) q_is)
