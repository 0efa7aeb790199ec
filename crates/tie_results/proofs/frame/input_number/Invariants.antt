use Rattle.std.proofs.Common.{◌≡◌, ◌+◌, drop}
use Rattle.std.specs.Option.{option_map}
use Rattle.tie_mean.specs.Setters.{leaf_names}
use Rattle.tie_results.specs.Bodies.{input_number}
use Rattle.tie_results.proofs.frame.input_number.Given as goal

abbrev pub invariant-loop-i : goal.invariant-loop-i
invariant-loop-i l = option_map (λ j. j + l.i) (input_number (leaf_names (drop l.i l.inputs)) l.name.bytes) ≡ input_number (leaf_names l.inputs) l.name.bytes
