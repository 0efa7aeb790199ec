use Rattle.std.proofs.Common.{◌≡◌, drop}
use Rattle.tie_mean.specs.CountScope.{call_in}
use Rattle.tie_results.proofs.callees.call_count.Given as goal

abbrev pub invariant-loop-count : goal.invariant-loop-count
invariant-loop-count l = call_in (drop l.count-index l.counts) l.name.bytes l.found ≡ call_in l.counts l.name.bytes 1
