use Rattle.std.proofs.Common.{◌≡◌, ℕ, List, Some, slice_get, sym, subst, arith}
use Rattle.std.proofs.lemmas.Grind.{common_steps}
use Rattle.net_ref.specs.declared.channel.Channel.{Channel}
use Rattle.net_ref.specs.First.{IsFirstChannel}
use Rattle.net_ref.proofs.Pushed.{more_channels}
use Rattle.net_ref.proofs.running.no_items.Goals as goal

pub loop-preserved : goal.loop-preserved
loop-preserved c = record {
  len = grind (arith, common_steps);
  each =
      subst (λ (xs : List Channel). (q : ℕ) (x : Channel) → slice_get xs q ≡ Some x → IsFirstChannel x) (sym c.in_ok-push.ensures.items)
      (more_channels c.loop.all.items c.new.result (record { history = c.new.ensures.history; consumed = c.new.ensures.consumed }) c.loop.invariant.each);
}
