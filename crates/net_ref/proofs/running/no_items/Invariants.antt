use Rattle.std.proofs.Common.{◌≡◌, ℕ, Some, slice_get, vec_len}
use Rattle.net_ref.specs.declared.channel.Channel.{Channel}
use Rattle.net_ref.specs.First.{IsFirstChannel}
use Rattle.net_ref.proofs.running.no_items.Given as goal

abbrev pub invariant-loop : goal.invariant-loop
invariant-loop l = record {
  len : vec_len l.all ≡ l.counter;
  each : (q : ℕ) (x : Channel) → slice_get l.all.items q ≡ Some x → IsFirstChannel x;
}
