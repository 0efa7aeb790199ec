use Rattle.std.proofs.Common.{◌≡◌, ◌+◌, ◌*◌, ◌^◌, ◌<◌, drop}
use Rattle.std.specs.Prelude.{fold}
use Rattle.net_desc.specs.Items.{number_in}
use Rattle.net_desc.proofs.numbers.number_in.Given as goal

abbrev pub invariant-loop-b : goal.invariant-loop-b
invariant-loop-b l = record {
  value : fold (λ n b. 256 * n + b) l.n (drop l.b-index l.bytes) ≡ number_in l.bytes;
  below : l.n < 256 ^ l.b-index;
}
