use Rattle.std.proofs.Common.{◌≡◌, ◌++◌, List, map, drop, Bor, BTreeMap, String, Global}
use Rattle.std.specs.Option.{option_map}
use Rattle.toml.specs.Data.{Members}
use Rattle.toml.specs.View.{table_view, items_view}
use Rattle.toml.specs.declared.value.Value.{Value}
use Rattle.net_toml.specs.Values.{tables_of}
use Rattle.net_toml.proofs.values.tables_of.Given as goal

abbrev pub invariant-loop-item : goal.invariant-loop-item
invariant-loop-item l =
    option_map (λ (ts : List Members). map (λ (t : Bor (BTreeMap (String Global) Value)). table_view t.now) l.tables.items ++ ts) (tables_of (items_view (drop l.item-index l.array.items)))
    ≡ tables_of (items_view l.array.items)
