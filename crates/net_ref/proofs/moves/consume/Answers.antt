use Rattle.std.proofs.Common.{◌≡◌, ℕ, length, get_or, subst, arith}
use Rattle.net_ref.specs.Shown.{AreConsumed, queues_of}
use Rattle.std.proofs.lemmas.Option.{slice_get-get_or}
use Rattle.net_ref.proofs.Channels.{consumed_none, consume_step}
use Rattle.net_ref.proofs.moves.consume.Goals as goal

pub loop-i-init : goal.loop-i-init
loop-i-init c test f e table = consumed_none c.args.channels.now (λ q x at. x.within)

pub loop-i-preserved : goal.loop-i-preserved
loop-i-preserved c =
    let ins = c.args.ins.now in
    let i = c.loop-i.i in
    consume_step c.args.pops ins i (get_or ins i 0) c.has_bit-popped.result c.args.channels.now c.loop-i.channels c.take_if.new.channels
    (slice_get-get_or ins i 0 (omega arith)) c.has_bit-popped.ensures c.loop-i.invariant c.take_if.ensures

pub returns : goal.returns
returns c test f e table =
    let whole : c.loop-i.i ≡ length c.args.ins.now = omega arith in
    subst (λ (n : ℕ). AreConsumed (queues_of f test n) c.args.channels.now c.loop-i.channels) whole (c.loop-i.invariant test f e table)
