use Rattle.std.proofs.Common.{◌≡◌, [], length, map, drop, All, Bor, BTreeMap, String, Global}
use Rattle.toml.specs.View.{table_view}
use Rattle.toml.specs.declared.value.Value.{Value}
use Rattle.net_toml.specs.Earlier.{names_in}
use Rattle.net_toml.specs.Limits.{IsCorePlan}
use Rattle.net_toml.specs.Walk.{each, core_of, core_names}
use Rattle.net_toml.proofs.cores.cores_in.Given as goal

abbrev pub invariant-loop-table : goal.invariant-loop-table
invariant-loop-table l = record {
  walk : each core_of l.cores.items (map (λ (t : Bor (BTreeMap (String Global) Value)). table_view t.now) (drop l.table-index l.tables))
      ≡ each core_of [] (map (λ (t : Bor (BTreeMap (String Global) Value)). table_view t.now) l.tables);
  named : names_in l.names ≡ core_names l.cores.items;
  count : length l.cores.items ≡ l.table-index;
  within : All IsCorePlan l.cores.items;
}
