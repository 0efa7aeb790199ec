use Rattle.std.proofs.Common.{◌≡◌, ◌++◌, map, drop}
use Rattle.std.specs.List.{flat_map}
use Rattle.tie_describe.specs.Operations.{with_results, operation_of}
use Rattle.tie_describe.proofs.operations.operations_among.Given as goal

abbrev pub invariant-loop-decl : goal.invariant-loop-decl
invariant-loop-decl l =
    l.ops.items ++ with_results l.tree (flat_map operation_of (drop l.decl-index l.decls)) (map (λ r. r.items) l.left.items)
    ≡ with_results l.tree (flat_map operation_of l.decls) (map (λ r. r.items) l.fn.results.items)
