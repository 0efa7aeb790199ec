use Rattle.std.proofs.lemmas.Result.{err_from_is_err_and}
use Rattle.tie_files.specs.Files.{shelved, Shelved}
use Rattle.tie_files.proofs.Files.{unread}
use Rattle.net_load.specs.Texts.{image_in, Breaks}
use Rattle.net_load.proofs.Files.{image_file}
use Rattle.net_load.proofs.cores.read_image.Goals as goal

pub returns-in_err-text-clause-judged : goal.returns-in_err-text-clause-judged
returns-in_err-text-clause-judged g c =
    let s : Shelved = shelved g.S.Shelf.holds g.S.Shelf.faults c.args.shelf.now c.read_file.new.shelf in
    let p = err_from_is_err_and c.from_residual.result c.from_residual.ensures.1 in
    let core = c.args.core.now in
    rw (p.1, p.2) (unread s core.image (λ text. Breaks c.args.name.now (image_in c.args.index core text)) _ (rw c.as_str.ensures at c.in_err-text.ensures.read))

pub returns-clause-judged : goal.returns-clause-judged
returns-clause-judged g c =
    let s : Shelved = shelved g.S.Shelf.holds g.S.Shelf.faults c.args.shelf.now c.read_file.new.shelf in
    image_file s c.args.name.now c.args.index c.args.core.now c.in_ok-text.text.items c.image_of.result (rw c.as_str.ensures at c.in_ok-text.ensures.read)
    (rw c.deref.ensures.value at c.image_of.ensures)
