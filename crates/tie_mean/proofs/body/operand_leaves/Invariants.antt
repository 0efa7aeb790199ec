use Rattle.std.proofs.Common.{◌≡◌, ◌++◌, take}
use Rattle.std.specs.List.{flat_map}
use Rattle.tie_mean.specs.Names as names
use Rattle.tie_mean.specs.Setters.{leaf_names}
use Rattle.tie_mean.proofs.body.operand_leaves.Given as goal

abbrev pub invariant-loop-argument : goal.invariant-loop-argument
invariant-loop-argument l = leaf_names l.leaves.items ≡ flat_map (names.argument_if (names.operand_side l.written)) (take l.argument-index l.operation.arguments)

abbrev pub invariant-loop-link : goal.invariant-loop-link
invariant-loop-link l =
    leaf_names l.leaves.items ≡ flat_map (names.argument_if (names.operand_side l.written)) l.operation.arguments ++ flat_map (names.link_if (names.operand_side l.written)) (take l.link-index l.operation.links)
