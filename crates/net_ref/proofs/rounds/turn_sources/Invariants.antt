use Rattle.std.proofs.Common.{◌+◌}
use Rattle.net_ref.specs.Workers.{Nodes, core_count}
use Rattle.net_ref.specs.Shown.{ArePart, IsRun}
use Rattle.net_ref.proofs.rounds.turn_sources.Given as goal

abbrev pub invariant-loop-s : goal.invariant-loop-s
invariant-loop-s l = record {
  whole : IsRun l.net l.run;
  part : (nodes : Nodes) → ArePart l.bounded l.net nodes (core_count l.net) l.before l.initial.run → ArePart l.bounded l.net nodes (core_count l.net + l.s) l.moved l.run;
}
