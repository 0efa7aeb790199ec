use Rattle.std.proofs.lemmas.Result.{err_from_is_err_and}
use Rattle.load_law.specs.tie_files.Files.{shelved, Shelved}
use Rattle.tie_top.proofs.CommandSteps.{exec_err, exec_ok}
use Rattle.tie_top.proofs.networks.exec.Goals as goal

pub returns-in_err-bytes : goal.returns-in_err-bytes
returns-in_err-bytes g c =
    let s : Shelved = shelved g.S.Shelf.holds g.S.Shelf.faults c.args.shelf.now c.read_hex_file.new.shelf in
    let p = err_from_is_err_and c.from_residual.result c.from_residual.ensures.1 in
    rw (p.1, p.2) (exec_err s c.args.hex.now _ c.in_err-bytes.ensures.judged)

pub returns : goal.returns
returns g c =
    let s : Shelved = shelved g.S.Shelf.holds g.S.Shelf.faults c.args.shelf.now c.read_hex_file.new.shelf in
    exec_ok s c.args.hex.now _ _ c.in_ok-bytes.ensures.judged (rw c.empty.ensures at c.run_image.ensures)
