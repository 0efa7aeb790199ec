use Rattle.std.proofs.Common.{◌≡◌, drop}
use Rattle.tie_mean.specs.CountScope as kept
use Rattle.tie_mean.proofs.scope.call_in.Given as goal

abbrev pub invariant-loop-function : goal.invariant-loop-function
invariant-loop-function l = kept.call_in (drop l.function-index l.functions) l.name.bytes l.found ≡ kept.call_in l.functions l.name.bytes 1
