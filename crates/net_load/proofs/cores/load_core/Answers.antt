use Rattle.std.proofs.lemmas.Result.{err_from_is_err_and}
use Rattle.tie_files.specs.Files.{shelved, Shelved}
use Rattle.tie_files.proofs.Steps.{early, late, Within}
use Rattle.net_load.proofs.CoreSteps.{image_err}
use Rattle.net_load.proofs.cores.load_core.Goals as goal

pub returns-in_err-text-clause-judged : goal.returns-in_err-text-clause-judged
returns-in_err-text-clause-judged g c =
    let one : Shelved = shelved g.S.Shelf.holds g.S.Shelf.faults c.args.shelf.now c.read_desc.new.shelf in
    let two : Shelved = shelved g.S.Shelf.holds g.S.Shelf.faults c.read_desc.new.shelf c.read_image.new.shelf in
    let s : Shelved = shelved g.S.Shelf.holds g.S.Shelf.faults c.args.shelf.now c.read_image.new.shelf in
    let v : Within one s = early g.S.Shelf.holds g.S.Shelf.faults c.args.shelf.now c.read_desc.new.shelf c.read_image.new.shelf c.in_err-text.ensures.later in
    let w : Within two s = late g.S.Shelf.holds g.S.Shelf.faults c.args.shelf.now c.read_desc.new.shelf c.read_image.new.shelf c.in_ok-desc.ensures.same c.in_ok-desc.ensures.later in
    let p = err_from_is_err_and c.from_residual-in_err-text.result c.from_residual-in_err-text.ensures.1 in
    rw (p.1, p.2) (image_err one two s c.args.name.now c.args.index c.args.core.now _ _ v w c.in_ok-desc.ensures.judged c.in_err-text.ensures.judged)
