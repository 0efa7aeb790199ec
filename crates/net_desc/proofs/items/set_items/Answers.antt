use Rattle.std.proofs.Common.{◌≡◌, Some, length, refl, sym, ap, ◌∙◌, arith}
use Rattle.std.proofs.lemmas.Option.{slice_get_read}
use Rattle.net_desc.specs.Items.{item_bits, items_in}
use Rattle.net_desc.proofs.Set.{set_same, set_kept, items_in-fit}
use Rattle.net_desc.proofs.items.set_items.Goals as goal

pub returns-in-Some-clause-same : goal.returns-in-Some-clause-same
returns-in-Some-clause-same c =
    let old = c.args.net.now in
    let s = c.args.source in
    let y = c.index.result.now in
    set_same old _ s (record { name = y.name; items = c.in-Some.items }) refl c.requires.source y
    (slice_get_read old.sources.items (length old.sources.items) s y refl c.requires.source c.index.ensures) refl

pub returns-in-Some-clause-network : goal.returns-in-Some-clause-network
returns-in-Some-clause-network c =
    let old = c.args.net.now in
    let s = c.args.source in
    let bits : c.item_bits-bits.result ≡ item_bits old s = c.item_bits-bits.ensures in
    let read = rw c.in-Some.is at c.in_ok-items.ensures.value in
    let few = rw c.in-Some.is at c.in_ok-items.ensures.count in
    let these : items_in (item_bits old s) c.args.bytes.now ≡ Some c.in-Some.items.items = ap (λ n. items_in n c.args.bytes.now) (sym bits) ∙ sym read in
    set_kept old _ s (record { name = c.index.result.now.name; items = c.in-Some.items }) refl c.requires.source c.requires.network
    (items_in-fit (item_bits old s) c.args.bytes.now c.in-Some.items.items these) (omega arith)
