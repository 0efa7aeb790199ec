use Rattle.std.proofs.Common.{◌∙◌, ap, sym, map, string_bytes, Bor, List}
use Rattle.net_toml.specs.Names.{no_other}
use Rattle.net_toml.proofs.Tables.{keys_in-members}
use Rattle.net_toml.proofs.keys.no_other.Goals as goal

pub loop-key-init : goal.loop-key-init
loop-key-init c =
    ap (λ ks. no_other (map (λ (k : Bor (List _)). k.now) c.args.known.now) c.args.place.now (map string_bytes ks)) (c.into_iter-key-iterator.ensures.into_iter_gives ∙ c.keys-key-items.ensures.rest)
    ∙ ap (no_other (map (λ (k : Bor (List _)). k.now) c.args.known.now) c.args.place.now) (sym (keys_in-members c.args.table.now.entries))
