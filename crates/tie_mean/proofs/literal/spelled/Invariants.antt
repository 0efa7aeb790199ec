use Rattle.std.proofs.Common.{◌≡◌, ◌<◌, ◌^◌, drop}
use Rattle.tie_mean.specs.Literals as spec
use Rattle.tie_mean.proofs.literal.spelled.Given as goal

abbrev pub invariant-loop-b : goal.invariant-loop-b
invariant-loop-b l = (spec.spelled_behind l.base l.value (drop l.b-index l.digits) ≡ spec.spelled l.base l.digits) × (l.value < 2 ^ 128)
