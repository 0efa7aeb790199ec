use Rattle.std.proofs.Common.{◌≡◌, [], length, map, drop, All, Bor, BTreeMap, String, Global}
use Rattle.toml.specs.View.{table_view}
use Rattle.toml.specs.declared.value.Value.{Value}
use Rattle.net_toml.specs.Earlier.{names_in}
use Rattle.net_toml.specs.Limits.{Between}
use Rattle.net_toml.specs.Walk.{each, queue_of, queue_names}
use Rattle.net_toml.proofs.queues.queues_in.Given as goal

abbrev pub invariant-loop-table : goal.invariant-loop-table
invariant-loop-table l = record {
  walk : each queue_of l.queues.items (map (λ (t : Bor (BTreeMap (String Global) Value)). table_view t.now) (drop l.table-index l.tables))
      ≡ each queue_of [] (map (λ (t : Bor (BTreeMap (String Global) Value)). table_view t.now) l.tables);
  named : names_in l.names ≡ queue_names l.queues.items;
  count : length l.queues.items ≡ l.table-index;
  within : All (λ q. Between 1 4096 q.capacity) l.queues.items;
}
