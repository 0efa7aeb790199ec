use Rattle.std.proofs.Common.{◌+◌, Bool}
use Rattle.net_ref.specs.Workers.{Nodes, core_count, source_count}
use Rattle.net_ref.specs.Shown.{ArePart, IsRun}
use Rattle.net_ref.proofs.rounds.turn_collectors.Given as goal

abbrev pub invariant-loop-k : goal.invariant-loop-k
invariant-loop-k l = record {
  whole : IsRun l.net l.run;
  part : (bounded : Bool) (nodes : Nodes) → ArePart bounded l.net nodes (core_count l.net + source_count l.net) l.before l.initial.run
      → ArePart bounded l.net nodes (core_count l.net + source_count l.net + l.k) l.moved l.run;
}
