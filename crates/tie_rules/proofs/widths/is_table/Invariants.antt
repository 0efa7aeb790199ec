use Rattle.std.proofs.Common.{◌≡◌, drop, map}
use Rattle.std.specs.List.{flat_map}
use Rattle.tie_mean.specs.Names as names
use Rattle.tie_rules.proofs.widths.is_table.Given as goal

abbrev pub invariant-loop-declaration : goal.invariant-loop-declaration
invariant-loop-declaration l =
    names.is_among (map names.table_declared (flat_map names.table_of (drop l.declaration-index l.declarations))) l.name.bytes
    ≡ names.is_among (map names.table_declared (flat_map names.table_of l.declarations)) l.name.bytes
