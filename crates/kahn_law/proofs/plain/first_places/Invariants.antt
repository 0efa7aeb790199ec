use Rattle.std.proofs.Common.{◌≡◌, ℕ, None, vec_len}
use Rattle.kahn_law.specs.Machines.{node_of, nodes_of}
use Rattle.kahn_law.proofs.plain.first_places.Given as goal

abbrev pub invariant-loop : goal.invariant-loop
invariant-loop l = (vec_len l.places ≡ l.counter) × ((v : ℕ) → nodes_of l.places.items v ≡ node_of None)
