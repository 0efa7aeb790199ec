use Rattle.std.proofs.Common.{◌≡◌, ◌++◌, [], length, map, drop, All, Bor, BTreeMap, String, Global}
use Rattle.toml.specs.View.{table_view}
use Rattle.toml.specs.declared.value.Value.{Value}
use Rattle.net_toml.specs.Earlier.{names_in}
use Rattle.net_toml.specs.Limits.{Between}
use Rattle.net_toml.specs.Walk.{each, collector_of, collector_names}
use Rattle.net_toml.proofs.sources.collectors_in.Given as goal

abbrev pub invariant-loop-table : goal.invariant-loop-table
invariant-loop-table l = record {
  walk : each (collector_of (names_in l.fn.names)) l.collectors.items (map (λ (t : Bor (BTreeMap (String Global) Value)). table_view t.now) (drop l.table-index l.tables))
      ≡ each (collector_of (names_in l.fn.names)) [] (map (λ (t : Bor (BTreeMap (String Global) Value)). table_view t.now) l.tables);
  named : names_in l.names ≡ names_in l.fn.names ++ collector_names l.collectors.items;
  count : length l.collectors.items ≡ l.table-index;
  within : All (λ c. Between 1 262144 c.limit) l.collectors.items;
}
