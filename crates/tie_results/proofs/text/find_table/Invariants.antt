use Rattle.std.proofs.Common.{◌≡◌, drop, map}
use Rattle.tie_results.specs.Texts.{first_table}
use Rattle.tie_results.proofs.text.find_table.Given as goal

abbrev pub invariant-loop-table : goal.invariant-loop-table
invariant-loop-table l = first_table (map (λ x. x.now) (drop l.table-index l.tables)) l.name.bytes ≡ first_table (map (λ x. x.now) l.tables) l.name.bytes
