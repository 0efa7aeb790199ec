use Rattle.std.proofs.Common.{◌≡◌, ℕ, Bool}
use Rattle.xt_exec.specs.Queues.{mask}
use Rattle.net_ref.specs.Processor.{chosen}
use Rattle.net_ref.specs.Workers.{values_to}
use Rattle.net_ref.specs.Shown.{AreExtended, IsTable}
use Rattle.net_ref.proofs.moves.push_all.Given as goal

abbrev pub invariant-loop-o : goal.invariant-loop-o
invariant-loop-o l =
    (test : ℕ → Bool) (f : ℕ → ℕ) → l.pushes ≡ mask test → IsTable f l.outs → AreExtended (values_to f l.values (chosen test l.o)) l.initial.channels l.channels
