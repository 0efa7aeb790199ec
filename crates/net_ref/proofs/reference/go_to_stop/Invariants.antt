use Rattle.std.proofs.Common.{ℕ, ◌<◌}
use Rattle.kahn_law.specs.Network as law
use Rattle.net_ref.specs.Workers.{network}
use Rattle.net_ref.specs.Reference.{gate_of, rounds_of}
use Rattle.net_ref.specs.Shown.{IsRun, Shows}
use Rattle.net_ref.proofs.reference.go_to_stop.Given as goal

abbrev pub invariant-loop : goal.invariant-loop
invariant-loop l = record {
  whole : IsRun l.net l.run;
  shows : Shows l.net (rounds_of l.bounded l.net l.counter) l.run;
  going : (m : ℕ) → m < l.counter → law.StopsAt (network l.net) (gate_of l.bounded l.net) m → ⊥;
}
