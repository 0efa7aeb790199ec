use Rattle.std.proofs.Common.{◌≡◌, length, Some, refl, ◌∙◌, ap, arith}
use Rattle.std.specs.Prelude.{slice_get}
use Rattle.std.proofs.lemmas.Result.{err_from_is_err_and}
use Rattle.tie_files.specs.Files.{shelved, Shelved}
use Rattle.tie_files.proofs.Steps.{late, Within}
use Rattle.net_load.proofs.CoreSteps.{stands_at, cores_err, cores_more, all_cores}
use Rattle.net_load.proofs.cores.load_kits.Goals as goal

pub returns-in_err-loaded-clause-judged : goal.returns-in_err-loaded-clause-judged
returns-in_err-loaded-clause-judged g c =
    let before : Shelved = shelved g.S.Shelf.holds g.S.Shelf.faults c.args.shelf.now c.loop-i.shelf in
    let small : Shelved = shelved g.S.Shelf.holds g.S.Shelf.faults c.loop-i.shelf c.load_core.new.shelf in
    let s : Shelved = shelved g.S.Shelf.holds g.S.Shelf.faults c.args.shelf.now c.load_core.new.shelf in
    let w : Within small s = late g.S.Shelf.holds g.S.Shelf.faults c.args.shelf.now c.loop-i.shelf c.load_core.new.shelf c.loop-i.invariant.same c.loop-i.invariant.later in
    let core = c.index-cores-i.result in
    let here : slice_get c.args.plan.now.cores c.loop-i.i ≡ Some core = stands_at c.as_slice-cores.result.now c.args.plan.now.cores c.loop-i.i core c.as_slice-cores.ensures c.loop-i-test.true c.index-cores-i.is in
    let p = err_from_is_err_and c.from_residual.result c.from_residual.ensures.1 in
    rw (p.1, p.2) (cores_err small s before c.args.name.now c.args.plan.now c.loop-i.kits.items c.loop-i.i core _ (λ n. refl) w here c.loop-i.invariant.kits c.in_err-loaded.ensures.judged)

pub loop-i-preserved : goal.loop-i-preserved
loop-i-preserved g c =
    let before : Shelved = shelved g.S.Shelf.holds g.S.Shelf.faults c.args.shelf.now c.loop-i.shelf in
    let small : Shelved = shelved g.S.Shelf.holds g.S.Shelf.faults c.loop-i.shelf c.load_core.new.shelf in
    let s : Shelved = shelved g.S.Shelf.holds g.S.Shelf.faults c.args.shelf.now c.load_core.new.shelf in
    let w : Within small s = late g.S.Shelf.holds g.S.Shelf.faults c.args.shelf.now c.loop-i.shelf c.load_core.new.shelf c.loop-i.invariant.same c.loop-i.invariant.later in
    let core = c.index-cores-i.result in
    let cores = c.args.plan.now.cores in
    let here : slice_get cores c.loop-i.i ≡ Some core = stands_at c.as_slice-cores.result.now cores c.loop-i.i core c.as_slice-cores.ensures c.loop-i-test.true c.index-cores-i.is in
    record {
      kits = cores_more small s before cores c.loop-i.kits.items c.push.new.self.items c.loop-i.i core c.in_ok-loaded.loaded c.in_ok-push.ensures.items (λ n. refl) w here
          c.loop-i.invariant.kits c.in_ok-loaded.ensures.judged;
      same = λ n. c.in_ok-loaded.ensures.same n ∙ c.loop-i.invariant.same n;
      later = λ n. let a = c.loop-i.invariant.later n in let b = c.in_ok-loaded.ensures.later n in omega arith;
    }

pub returns-clause-judged : goal.returns-clause-judged
returns-clause-judged g c =
    let s : Shelved = shelved g.S.Shelf.holds g.S.Shelf.faults c.args.shelf.now c.loop-i.shelf in
    let at_end : c.loop-i.i ≡ length c.args.plan.now.cores = let same = ap length c.as_slice-cores.ensures in let past = c.loop-i-test.false in let most = c.loop-i.auto.i-end in omega (arith, same, past, most) in
    all_cores s c.args.plan.now.cores c.loop-i.kits.items c.loop-i.i at_end c.loop-i.invariant.kits
