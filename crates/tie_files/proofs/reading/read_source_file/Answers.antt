use Rattle.std.proofs.lemmas.Result.{err_from_is_err_and}
use Rattle.tie_files.specs.Files.{shelved, Shelved, RefusesSource}
use Rattle.tie_files.proofs.Files.{unread, source_file}
use Rattle.tie_files.proofs.reading.read_source_file.Goals as goal

pub returns-in_err-text-clause-judged : goal.returns-in_err-text-clause-judged
returns-in_err-text-clause-judged g c =
    let s : Shelved = shelved g.S.Shelf.holds g.S.Shelf.faults c.args.shelf.now c.read_file.new.shelf in
    let p = err_from_is_err_and c.from_residual.result c.from_residual.ensures.1 in
    rw (p.1, p.2) (unread s c.args.name.now (RefusesSource c.args.desc.now c.args.name.now) _ c.in_err-text.ensures.read)

pub returns-clause-judged : goal.returns-clause-judged
returns-clause-judged g c =
    let s : Shelved = shelved g.S.Shelf.holds g.S.Shelf.faults c.args.shelf.now c.read_file.new.shelf in
    source_file s c.args.desc.now c.args.name.now c.in_ok-text.text.items c.source_of.result c.in_ok-text.ensures.read (rw c.deref.ensures.value at c.source_of.ensures)
