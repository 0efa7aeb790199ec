use Rattle.std.proofs.Common.{◌≡◌, map, take}
use Rattle.std.specs.List.{flat_map}
use Rattle.tie_description_law.specs.tie_describe.Operations.{operation_of}
use Rattle.tie_check.specs.Checked.{AllResults}
use Rattle.tie_check.proofs.operations.results_among.Given as goal

-- the operations among the first declarations have their results
abbrev pub invariant-loop-k : goal.invariant-loop-k
invariant-loop-k l = AllResults l.tree (flat_map operation_of (take l.k l.declarations)) (map (λ r. r.items) l.all.items)
