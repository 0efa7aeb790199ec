use Rattle.std.proofs.lemmas.Result.{err_from_is_err_and}
use Rattle.load_law.specs.tie_files.Files.{shelved, Shelved}
use Rattle.tie_top.proofs.CommandSteps.{check_err}
use Rattle.tie_top.proofs.commands.check.Goals as goal

pub returns-in_err-desc : goal.returns-in_err-desc
returns-in_err-desc g c =
    let s : Shelved = shelved g.S.Shelf.holds g.S.Shelf.faults c.args.shelf.now c.read_tie_file.new.shelf in
    let p = err_from_is_err_and c.from_residual.result c.from_residual.ensures.1 in
    rw (p.1, p.2) (check_err s c.args.tie.now _ c.in_err-desc.ensures.judged)
