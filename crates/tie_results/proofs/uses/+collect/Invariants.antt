use Rattle.std.proofs.Common.{◌≡◌, ◌++◌, map, take}
use Rattle.tie_mean.specs.Names.{is_among, table_declared}
use Rattle.tie_mean.specs.Setters.{leaf_names}
use Rattle.tie_results.specs.Reads.{names_read, all_of}
use Rattle.tie_results.proofs.uses.+collect.Given as goal

abbrev pub invariant-collect_all-loop-part : goal.invariant-collect_all-loop-part
invariant-collect_all-loop-part l =
    leaf_names l.found.items ≡ leaf_names l.fn.found.items ++ all_of (map (names_read (is_among (map table_declared (map (λ x. x.now) l.tables)))) (take l.part-index l.parts))
