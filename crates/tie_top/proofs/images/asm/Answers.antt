use Rattle.std.proofs.lemmas.Result.{err_from_is_err_and}
use Rattle.load_law.specs.tie_files.Files.{shelved, Shelved}
use Rattle.load_law.proofs.tie_files_proofs.Steps.{whole, early, late, Within}
use Rattle.tie_top.proofs.CommandSteps.{asm_first, asm_second, asm_ok}
use Rattle.tie_top.proofs.images.asm.Goals as goal

pub returns-in_err-desc : goal.returns-in_err-desc
returns-in_err-desc g c =
    let s : Shelved = shelved g.S.Shelf.holds g.S.Shelf.faults c.args.shelf.now c.read_tie_file.new.shelf in
    let p = err_from_is_err_and c.from_residual.result c.from_residual.ensures.1 in
    rw (p.1, p.2) (asm_first s s c.args.tie.now c.args.source.now _ (whole s) c.in_err-desc.ensures.judged)

pub returns-in_err-image : goal.returns-in_err-image
returns-in_err-image g c =
    let one : Shelved = shelved g.S.Shelf.holds g.S.Shelf.faults c.args.shelf.now c.read_tie_file.new.shelf in
    let two : Shelved = shelved g.S.Shelf.holds g.S.Shelf.faults c.read_tie_file.new.shelf c.read_source_file.new.shelf in
    let s : Shelved = shelved g.S.Shelf.holds g.S.Shelf.faults c.args.shelf.now c.read_source_file.new.shelf in
    let v : Within one s = early g.S.Shelf.holds g.S.Shelf.faults c.args.shelf.now c.read_tie_file.new.shelf c.read_source_file.new.shelf c.in_err-image.ensures.later in
    let w : Within two s = late g.S.Shelf.holds g.S.Shelf.faults c.args.shelf.now c.read_tie_file.new.shelf c.read_source_file.new.shelf c.in_ok-desc.ensures.same c.in_ok-desc.ensures.later in
    let p = err_from_is_err_and c.from_residual-in_err-image.result c.from_residual-in_err-image.ensures.1 in
    rw (p.1, p.2) (asm_second one two s c.args.tie.now c.args.source.now _ _ v w c.in_ok-desc.ensures.judged c.in_err-image.ensures.judged)

pub returns : goal.returns
returns g c =
    let one : Shelved = shelved g.S.Shelf.holds g.S.Shelf.faults c.args.shelf.now c.read_tie_file.new.shelf in
    let two : Shelved = shelved g.S.Shelf.holds g.S.Shelf.faults c.read_tie_file.new.shelf c.read_source_file.new.shelf in
    let s : Shelved = shelved g.S.Shelf.holds g.S.Shelf.faults c.args.shelf.now c.read_source_file.new.shelf in
    let v : Within one s = early g.S.Shelf.holds g.S.Shelf.faults c.args.shelf.now c.read_tie_file.new.shelf c.read_source_file.new.shelf c.in_ok-image.ensures.later in
    let w : Within two s = late g.S.Shelf.holds g.S.Shelf.faults c.args.shelf.now c.read_tie_file.new.shelf c.read_source_file.new.shelf c.in_ok-desc.ensures.same c.in_ok-desc.ensures.later in
    asm_ok one two s c.args.tie.now c.args.source.now _ _ _ v w c.in_ok-desc.ensures.judged c.in_ok-image.ensures.judged (rw c.deref.ensures.value at c.print.ensures)
