use Rattle.std.proofs.Common.{length, ◌≡◌}
use Rattle.processor_tests.proofs.bundles.parts.Given as goal

abbrev pub invariant-loop-part : goal.invariant-loop-part
invariant-loop-part l = length l.parts.items ≡ l.part-index
