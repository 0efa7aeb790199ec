use Rattle.std.proofs.lemmas.Result.{err_from_is_err_and}
use Rattle.net_desc.specs.Items.{source_items}
use Rattle.tie_files.specs.Files.{shelved, Shelved}
use Rattle.tie_files.proofs.Files.{unread}
use Rattle.net_load.specs.Texts.{items_in, Breaks}
use Rattle.net_load.proofs.Files.{items_file}
use Rattle.net_load.proofs.sources.read_items.Goals as goal

pub returns-in_err-text-clause-judged : goal.returns-in_err-text-clause-judged
returns-in_err-text-clause-judged g c =
    let s : Shelved = shelved g.S.Shelf.holds g.S.Shelf.faults c.args.shelf.now c.read_file.new.shelf in
    let p = err_from_is_err_and c.from_residual.result c.from_residual.ensures.1 in
    let source = c.args.source.now in
    rw (p.1, p.2) (unread s source.items (λ text. Breaks c.args.name.now (items_in c.args.net.now c.args.index text)) _ (rw c.as_str.ensures at c.in_err-text.ensures.read))

pub returns-clause-judged : goal.returns-clause-judged
returns-clause-judged g c =
    let s : Shelved = shelved g.S.Shelf.holds g.S.Shelf.faults c.args.shelf.now c.read_file.new.shelf in
    items_file s c.args.name.now c.args.net.now c.args.index c.args.source.now c.in_ok-text.text.items (source_items c.give.new.net c.args.index) c.give.result
    (rw c.as_str.ensures at c.in_ok-text.ensures.read) (rw c.deref.ensures.value at c.give.ensures.items)
