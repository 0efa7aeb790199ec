use Rattle.std.proofs.Common.{◌≡◌, ℕ, Bool}
use Rattle.std.specs.List.{list_all}
use Rattle.xt_exec.specs.Queues.{mask}
use Rattle.net_ref.specs.Shown.{IsTable, queues_of, room_at}
use Rattle.net_ref.proofs.moves.has_room.Given as goal

abbrev pub invariant-loop-o : goal.invariant-loop-o
invariant-loop-o l =
    (test : ℕ → Bool) (f : ℕ → ℕ) → l.pushes ≡ mask test → IsTable f l.outs → l.room ≡ list_all (room_at l.channels l.queues) (queues_of f test l.o)
