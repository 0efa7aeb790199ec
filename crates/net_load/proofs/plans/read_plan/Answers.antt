use Rattle.std.proofs.lemmas.Result.{err_from_is_err_and}
use Rattle.net_desc.specs.net_toml.Walk.{plan_in}
use Rattle.tie_files.specs.Files.{shelved, Shelved}
use Rattle.tie_files.proofs.Files.{unread}
use Rattle.net_load.specs.Texts.{Breaks}
use Rattle.net_load.proofs.Files.{plan_file}
use Rattle.net_load.proofs.plans.read_plan.Goals as goal

pub returns-in_err-text-clause-judged : goal.returns-in_err-text-clause-judged
returns-in_err-text-clause-judged g c =
    let s : Shelved = shelved g.S.Shelf.holds g.S.Shelf.faults c.args.shelf.now c.read_file.new.shelf in
    let p = err_from_is_err_and c.from_residual.result c.from_residual.ensures.1 in
    rw (p.1, p.2) (unread s c.args.name.now (λ text. Breaks c.args.name.now (plan_in text)) _ c.in_err-text.ensures.read)

pub returns-clause-judged : goal.returns-clause-judged
returns-clause-judged g c =
    let s : Shelved = shelved g.S.Shelf.holds g.S.Shelf.faults c.args.shelf.now c.read_file.new.shelf in
    plan_file s c.args.name.now c.in_ok-text.text.items c.plan_of.result c.in_ok-text.ensures.read (rw c.deref.ensures.value at c.plan_of.ensures.judged)
