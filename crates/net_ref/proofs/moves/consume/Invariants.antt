use Rattle.std.proofs.Common.{◌≡◌, ℕ, Bool}
use Rattle.xt_exec.specs.Queues.{mask}
use Rattle.net_ref.specs.Shown.{AreConsumed, IsTable, queues_of}
use Rattle.net_ref.proofs.moves.consume.Given as goal

abbrev pub invariant-loop-i : goal.invariant-loop-i
invariant-loop-i l = (test : ℕ → Bool) (f : ℕ → ℕ) → l.pops ≡ mask test → IsTable f l.ins → AreConsumed (queues_of f test l.i) l.initial.channels l.channels
