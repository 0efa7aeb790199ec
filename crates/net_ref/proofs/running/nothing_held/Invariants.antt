use Rattle.std.proofs.Common.{◌≡◌, replicate}
use Rattle.net_ref.proofs.running.nothing_held.Given as goal

abbrev pub invariant-loop : goal.invariant-loop
invariant-loop l = l.held.items ≡ replicate l.counter 0
