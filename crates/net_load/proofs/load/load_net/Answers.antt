use Rattle.std.proofs.Common.{◌≡◌, ◌≤◌, List, ℕ, refl, sym, ◌∙◌, arith}
use Rattle.std.proofs.lemmas.Result.{err_from_is_err_and}
use Rattle.tie_files.specs.Files.{shelved, Shelved}
use Rattle.tie_files.proofs.Steps.{late, Within}
use Rattle.net_load.proofs.CoreSteps.{kits_are}
use Rattle.net_load.proofs.Whole.{plan_err, kits_err, wires_err, wired_is, items_err, net_is}
use Rattle.net_load.proofs.load.load_net.Goals as goal

pub returns-in_err-plan-clause-judged : goal.returns-in_err-plan-clause-judged
returns-in_err-plan-clause-judged g c =
    let s : Shelved = shelved g.S.Shelf.holds g.S.Shelf.faults c.args.shelf.now c.read_plan.new.shelf in
    let p = err_from_is_err_and c.from_residual.result c.from_residual.ensures.1 in
    rw (p.1, p.2) (plan_err s c.args.name.now _ c.in_err-plan.ensures.judged)

pub returns-in_err-kits-clause-judged : goal.returns-in_err-kits-clause-judged
returns-in_err-kits-clause-judged g c =
    let one : Shelved = shelved g.S.Shelf.holds g.S.Shelf.faults c.args.shelf.now c.read_plan.new.shelf in
    let two : Shelved = shelved g.S.Shelf.holds g.S.Shelf.faults c.read_plan.new.shelf c.load_kits.new.shelf in
    let s : Shelved = shelved g.S.Shelf.holds g.S.Shelf.faults c.args.shelf.now c.load_kits.new.shelf in
    let w : Within two s = late g.S.Shelf.holds g.S.Shelf.faults c.args.shelf.now c.read_plan.new.shelf c.load_kits.new.shelf c.in_ok-plan.ensures.same c.in_ok-plan.ensures.later in
    let p = err_from_is_err_and c.from_residual-in_err-kits.result c.from_residual-in_err-kits.ensures.1 in
    rw (p.1, p.2) (kits_err one two s c.args.name.now c.in_ok-plan.plan _ (λ n. refl) w c.in_ok-plan.ensures.judged c.in_err-kits.ensures.judged)

pub wire_net-requires-clause-kits : goal.wire_net-requires-clause-kits
wire_net-requires-clause-kits g c =
    let two : Shelved = shelved g.S.Shelf.holds g.S.Shelf.faults c.read_plan.new.shelf c.load_kits.new.shelf in
    kits_are two 0 c.in_ok-plan.plan.cores c.in_ok-kits.kits.items c.in_ok-kits.ensures.judged

pub returns-in_err-net-clause-judged : goal.returns-in_err-net-clause-judged
returns-in_err-net-clause-judged g c =
    let one : Shelved = shelved g.S.Shelf.holds g.S.Shelf.faults c.args.shelf.now c.read_plan.new.shelf in
    let two : Shelved = shelved g.S.Shelf.holds g.S.Shelf.faults c.read_plan.new.shelf c.load_kits.new.shelf in
    let s : Shelved = shelved g.S.Shelf.holds g.S.Shelf.faults c.args.shelf.now c.load_kits.new.shelf in
    let p = err_from_is_err_and c.from_residual-in_err-net.result c.from_residual-in_err-net.ensures.1 in
    rw (p.1, p.2) (wires_err one two s c.args.name.now c.in_ok-plan.plan c.in_ok-kits.kits.items _ (λ n. refl) c.in_ok-plan.ensures.same c.in_ok-plan.ensures.judged
    c.in_ok-kits.ensures.judged c.in_err-net.ensures.judged)

pub load_items-requires-clause-wired : goal.load_items-requires-clause-wired
load_items-requires-clause-wired g c =
    let two : Shelved = shelved g.S.Shelf.holds g.S.Shelf.faults c.read_plan.new.shelf c.load_kits.new.shelf in
    let here : Shelved = shelved g.S.Shelf.holds g.S.Shelf.faults c.load_kits.new.shelf c.load_kits.new.shelf in
    wired_is two here c.in_ok-plan.plan c.in_ok-kits.kits.items c.in_ok-net.net (λ n. sym (c.in_ok-kits.ensures.same n)) c.in_ok-kits.ensures.judged c.in_ok-net.ensures.judged
    c.in_ok-net.ensures.workers

pub returns-in_err-load_items-clause-judged : goal.returns-in_err-load_items-clause-judged
returns-in_err-load_items-clause-judged g c =
    let one : Shelved = shelved g.S.Shelf.holds g.S.Shelf.faults c.args.shelf.now c.read_plan.new.shelf in
    let two : Shelved = shelved g.S.Shelf.holds g.S.Shelf.faults c.read_plan.new.shelf c.load_kits.new.shelf in
    let three : Shelved = shelved g.S.Shelf.holds g.S.Shelf.faults c.load_kits.new.shelf c.load_items.new.shelf in
    let s : Shelved = shelved g.S.Shelf.holds g.S.Shelf.faults c.args.shelf.now c.load_items.new.shelf in
    let same : (n : List ℕ) → g.S.Shelf.holds c.load_kits.new.shelf n ≡ g.S.Shelf.holds c.args.shelf.now n = λ n. c.in_ok-kits.ensures.same n ∙ c.in_ok-plan.ensures.same n in
    let later : (n : List ℕ) → g.S.Shelf.faults c.args.shelf.now n ≤ g.S.Shelf.faults c.load_kits.new.shelf n =
    λ n. let a = c.in_ok-plan.ensures.later n in let b = c.in_ok-kits.ensures.later n in omega (arith, a, b) in
    let w : Within three s = late g.S.Shelf.holds g.S.Shelf.faults c.args.shelf.now c.load_kits.new.shelf c.load_items.new.shelf same later in
    let p = err_from_is_err_and c.from_residual-in_err-load_items.result c.from_residual-in_err-load_items.ensures.1 in
    rw (p.1, p.2) (items_err one two three s c.args.name.now c.in_ok-plan.plan c.in_ok-kits.kits.items c.in_ok-net.net _ (λ n. refl) c.in_ok-plan.ensures.same w
    c.in_ok-plan.ensures.judged c.in_ok-kits.ensures.judged c.in_ok-net.ensures.judged c.in_ok-net.ensures.workers c.in_err-load_items.ensures.judged)

pub returns-clause-judged : goal.returns-clause-judged
returns-clause-judged g c =
    let one : Shelved = shelved g.S.Shelf.holds g.S.Shelf.faults c.args.shelf.now c.read_plan.new.shelf in
    let two : Shelved = shelved g.S.Shelf.holds g.S.Shelf.faults c.read_plan.new.shelf c.load_kits.new.shelf in
    let three : Shelved = shelved g.S.Shelf.holds g.S.Shelf.faults c.load_kits.new.shelf c.load_items.new.shelf in
    let s : Shelved = shelved g.S.Shelf.holds g.S.Shelf.faults c.args.shelf.now c.load_items.new.shelf in
    let same : (n : List ℕ) → g.S.Shelf.holds c.load_kits.new.shelf n ≡ g.S.Shelf.holds c.args.shelf.now n = λ n. c.in_ok-kits.ensures.same n ∙ c.in_ok-plan.ensures.same n in
    net_is one two three s c.args.name.now c.in_ok-plan.plan c.in_ok-kits.kits.items c.in_ok-net.net c.load_items.new.net (λ n. refl) c.in_ok-plan.ensures.same same
    c.in_ok-plan.ensures.judged c.in_ok-kits.ensures.judged c.in_ok-net.ensures.judged c.in_ok-net.ensures.workers c.in_ok-load_items.ensures.around c.in_ok-load_items.ensures.judged
