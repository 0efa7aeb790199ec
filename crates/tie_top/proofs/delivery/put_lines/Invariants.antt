use Rattle.std.proofs.Common.{◌≤◌, ◌-◌, length, take}
use Rattle.tie_io.specs.Writing.{Grew}
use Rattle.tie_top.proofs.delivery.put_lines.Given as goal

abbrev pub invariant-loop-done : goal.invariant-loop-done
invariant-loop-done g l = record {
  within : l.done ≤ length l.text;
  later : g.O.Sink.faults l.fn.sink ≤ g.O.Sink.faults l.sink;
  written : Grew (g.O.Sink.written l.fn.sink) (g.O.Sink.written l.sink) (take l.done l.text);
}

abbrev pub decreases-loop-done : goal.decreases-loop-done
decreases-loop-done g l = length l.text - l.done
