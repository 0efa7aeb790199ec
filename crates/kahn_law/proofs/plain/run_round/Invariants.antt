use Rattle.std.proofs.Common.{◌≡◌, ℕ}
use Rattle.kahn_law.specs.Machines.{nodes_of, turns_of}
use Rattle.kahn_law.proofs.plain.run_round.Given as goal

abbrev pub invariant-loop-w : goal.invariant-loop-w
invariant-loop-w l = (v : ℕ) → nodes_of l.places v ≡ turns_of l.net l.bounded (nodes_of l.initial.places) l.w v
