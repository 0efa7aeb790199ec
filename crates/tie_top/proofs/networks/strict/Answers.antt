use Rattle.std.proofs.lemmas.Result.{err_from_is_err_and}
use Rattle.load_law.specs.tie_files.Files.{shelved, Shelved}
use Rattle.tie_top.proofs.CommandSteps.{strict_err, strict_ok}
use Rattle.tie_top.proofs.networks.strict.Goals as goal

pub returns-in_err-net : goal.returns-in_err-net
returns-in_err-net g c =
    let s : Shelved = shelved g.S.Shelf.holds g.S.Shelf.faults c.args.shelf.now c.load_net.new.shelf in
    let p = err_from_is_err_and c.from_residual.result c.from_residual.ensures.1 in
    rw (p.1, p.2) (strict_err s c.args.net.now _ c.in_err-net.ensures.judged)

pub returns : goal.returns
returns g c =
    let s : Shelved = shelved g.S.Shelf.holds g.S.Shelf.faults c.args.shelf.now c.load_net.new.shelf in
    strict_ok s c.args.net.now _ _ c.in_ok-net.ensures.judged c.run_bounded.ensures
