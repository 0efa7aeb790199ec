use Rattle.std.proofs.Common.{◌≡◌, ◌++◌, [], length, map, drop, Bor, BTreeMap, String, Global}
use Rattle.toml.specs.View.{table_view}
use Rattle.toml.specs.declared.value.Value.{Value}
use Rattle.net_toml.specs.Earlier.{names_in}
use Rattle.net_toml.specs.Walk.{each, source_of, source_names}
use Rattle.net_toml.proofs.sources.sources_in.Given as goal

abbrev pub invariant-loop-table : goal.invariant-loop-table
invariant-loop-table l = record {
  walk : each (source_of (names_in l.fn.names)) l.sources.items (map (λ (t : Bor (BTreeMap (String Global) Value)). table_view t.now) (drop l.table-index l.tables))
      ≡ each (source_of (names_in l.fn.names)) [] (map (λ (t : Bor (BTreeMap (String Global) Value)). table_view t.now) l.tables);
  named : names_in l.names ≡ names_in l.fn.names ++ source_names l.sources.items;
  count : length l.sources.items ≡ l.table-index;
}
