use Rattle.std.proofs.Common.{◌≡◌, [], All, length}
use Rattle.network_tests.proofs.wiring.kits.Given as goal

abbrev pub invariant-loop : goal.invariant-loop
invariant-loop l = record {
  count : length l.made.items ≡ l.counter;
  empty : All (λ k. (k.1.items ≡ []) × (k.0.image.at ≡ [])) l.made.items;
}
