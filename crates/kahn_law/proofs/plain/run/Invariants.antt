use Rattle.std.proofs.Common.{◌≡◌, ℕ, length, vec_len}
use Rattle.kahn_law.specs.Machines.{nodes_of, rounds_of}
use Rattle.kahn_law.proofs.plain.run.Given as goal

abbrev pub invariant-loop : goal.invariant-loop
invariant-loop l = record {
  len : vec_len l.places ≡ length l.net.machines.items;
  nodes : (v : ℕ) → nodes_of l.places.items v ≡ rounds_of l.net l.bounded l.counter v;
}
