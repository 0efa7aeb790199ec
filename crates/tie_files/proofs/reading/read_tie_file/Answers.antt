use Rattle.std.proofs.lemmas.Result.{err_from_is_err_and}
use Rattle.tie_files.specs.Files.{shelved, Shelved, RefusesTie}
use Rattle.tie_files.proofs.Files.{unread, tie_file}
use Rattle.tie_files.proofs.reading.read_tie_file.Goals as goal

pub returns-in_err-text-clause-judged : goal.returns-in_err-text-clause-judged
returns-in_err-text-clause-judged g c =
    let s : Shelved = shelved g.S.Shelf.holds g.S.Shelf.faults c.args.shelf.now c.read_file.new.shelf in
    let p = err_from_is_err_and c.from_residual.result c.from_residual.ensures.1 in
    rw (p.1, p.2) (unread s c.args.name.now (RefusesTie c.args.name.now) _ c.in_err-text.ensures.read)

pub returns-clause-judged : goal.returns-clause-judged
returns-clause-judged g c =
    let s : Shelved = shelved g.S.Shelf.holds g.S.Shelf.faults c.args.shelf.now c.read_file.new.shelf in
    tie_file s c.args.name.now c.in_ok-text.text.items c.tie_of.result c.in_ok-text.ensures.read (rw c.deref.ensures.value at c.tie_of.ensures)
