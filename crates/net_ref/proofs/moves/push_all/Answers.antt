use Rattle.std.proofs.Common.{◌≡◌, ℕ, length, get_or, subst, arith}
use Rattle.net_ref.specs.Shown.{AreExtended}
use Rattle.net_ref.specs.Processor.{chosen}
use Rattle.net_ref.specs.Workers.{values_to}
use Rattle.std.proofs.lemmas.Option.{slice_get-get_or}
use Rattle.net_ref.proofs.Channels.{extended_none, push_step}
use Rattle.net_ref.proofs.moves.push_all.Goals as goal

pub loop-o-init : goal.loop-o-init
loop-o-init c test f e table = extended_none f c.args.values.now c.args.channels.now

pub loop-o-preserved : goal.loop-o-preserved
loop-o-preserved c =
    let outs = c.args.outs.now in
    let o = c.loop-o.o in
    push_step c.args.pushes outs c.args.values.now o (get_or outs o 0) c.has_bit-pushed.result c.value_if-value.result c.args.channels.now c.loop-o.channels c.push_if.new.channels
    (slice_get-get_or outs o 0 (omega arith)) c.has_bit-pushed.ensures c.value_if-value.ensures c.loop-o.invariant c.in_ok-push_if.ensures

pub returns : goal.returns
returns c test f e table =
    let whole : c.loop-o.o ≡ length c.args.outs.now = omega arith in
    subst (λ (n : ℕ). AreExtended (values_to f c.args.values.now (chosen test n)) c.args.channels.now c.loop-o.channels) whole (c.loop-o.invariant test f e table)
