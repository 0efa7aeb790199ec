use Rattle.net_ref.specs.Workers.{Nodes}
use Rattle.net_ref.specs.Shown.{ArePart, IsRun, Shows}
use Rattle.net_ref.proofs.rounds.turn_cores.Given as goal

abbrev pub invariant-loop-c : goal.invariant-loop-c
invariant-loop-c l = record {
  whole : IsRun l.net l.run;
  part : (nodes : Nodes) → Shows l.net nodes l.initial.run → ArePart l.bounded l.net nodes l.c l.moved l.run;
}
