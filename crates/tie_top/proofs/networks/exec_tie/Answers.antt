use Rattle.std.proofs.lemmas.Result.{err_from_is_err_and}
use Rattle.load_law.specs.tie_files.Files.{shelved, Shelved}
use Rattle.load_law.proofs.tie_files_proofs.Steps.{whole, early, late, Within}
use Rattle.tie_top.proofs.CommandSteps.{first_err, second_err, exec_tie_ok}
use Rattle.tie_top.proofs.networks.exec_tie.Goals as goal

pub returns-in_err-bytes : goal.returns-in_err-bytes
returns-in_err-bytes g c =
    let s : Shelved = shelved g.S.Shelf.holds g.S.Shelf.faults c.args.shelf.now c.read_hex_file.new.shelf in
    let p = err_from_is_err_and c.from_residual.result c.from_residual.ensures.1 in
    rw (p.1, p.2) (first_err s s c.args.hex.now c.args.tie.now _ (whole s) c.in_err-bytes.ensures.judged)

pub returns-in_err-desc : goal.returns-in_err-desc
returns-in_err-desc g c =
    let one : Shelved = shelved g.S.Shelf.holds g.S.Shelf.faults c.args.shelf.now c.read_hex_file.new.shelf in
    let two : Shelved = shelved g.S.Shelf.holds g.S.Shelf.faults c.read_hex_file.new.shelf c.read_tie_file.new.shelf in
    let s : Shelved = shelved g.S.Shelf.holds g.S.Shelf.faults c.args.shelf.now c.read_tie_file.new.shelf in
    let v : Within one s = early g.S.Shelf.holds g.S.Shelf.faults c.args.shelf.now c.read_hex_file.new.shelf c.read_tie_file.new.shelf c.in_err-desc.ensures.later in
    let w : Within two s = late g.S.Shelf.holds g.S.Shelf.faults c.args.shelf.now c.read_hex_file.new.shelf c.read_tie_file.new.shelf c.in_ok-bytes.ensures.same c.in_ok-bytes.ensures.later in
    let p = err_from_is_err_and c.from_residual-in_err-desc.result c.from_residual-in_err-desc.ensures.1 in
    rw (p.1, p.2) (second_err one two s c.args.hex.now c.args.tie.now _ _ v w c.in_ok-bytes.ensures.judged c.in_err-desc.ensures.judged)

pub returns : goal.returns
returns g c =
    let one : Shelved = shelved g.S.Shelf.holds g.S.Shelf.faults c.args.shelf.now c.read_hex_file.new.shelf in
    let two : Shelved = shelved g.S.Shelf.holds g.S.Shelf.faults c.read_hex_file.new.shelf c.read_tie_file.new.shelf in
    let s : Shelved = shelved g.S.Shelf.holds g.S.Shelf.faults c.args.shelf.now c.read_tie_file.new.shelf in
    let v : Within one s = early g.S.Shelf.holds g.S.Shelf.faults c.args.shelf.now c.read_hex_file.new.shelf c.read_tie_file.new.shelf c.in_ok-desc.ensures.later in
    let w : Within two s = late g.S.Shelf.holds g.S.Shelf.faults c.args.shelf.now c.read_hex_file.new.shelf c.read_tie_file.new.shelf c.in_ok-bytes.ensures.same c.in_ok-bytes.ensures.later in
    exec_tie_ok one two s c.args.hex.now c.args.tie.now _ _ _ v w c.in_ok-bytes.ensures.judged c.in_ok-desc.ensures.judged c.run_image.ensures
