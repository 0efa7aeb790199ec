use Rattle.std.proofs.Common.{◌≡◌, drop}
use Rattle.tie_mean.specs.CountScope as kept
use Rattle.tie_mean.proofs.scope.times_in.Given as goal

abbrev pub invariant-loop-function : goal.invariant-loop-function
invariant-loop-function l = kept.times_in (drop l.function-index l.functions) l.name.bytes l.number l.found ≡ kept.times_in l.functions l.name.bytes l.number 1
