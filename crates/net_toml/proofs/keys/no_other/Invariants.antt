use Rattle.std.proofs.Common.{◌≡◌, List, map, string_bytes, Bor}
use Rattle.toml.specs.View.{table_view}
use Rattle.net_toml.specs.Names.{no_other, keys_in}
use Rattle.net_toml.proofs.keys.no_other.Given as goal

abbrev pub invariant-loop-key : goal.invariant-loop-key
invariant-loop-key l =
    no_other (map (λ (k : Bor (List _)). k.now) l.known) l.place (map string_bytes l.key-iterator)
    ≡ no_other (map (λ (k : Bor (List _)). k.now) l.known) l.place (keys_in (table_view l.table))
