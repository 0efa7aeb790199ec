use Rattle.std.proofs.Common.{◌≡◌, length, Some, refl, ◌∙◌, ap, arith}
use Rattle.std.specs.Prelude.{slice_get}
use Rattle.std.proofs.lemmas.Result.{err_from_is_err_and}
use Rattle.tie_files.specs.Files.{shelved, Shelved}
use Rattle.tie_files.proofs.Steps.{late, Within}
use Rattle.net_load.specs.Loaded.{IsWiredOf}
use Rattle.net_load.proofs.Seen.{wired_seen}
use Rattle.net_load.proofs.CoreSteps.{stands_at}
use Rattle.net_load.proofs.SourceSteps.{named_count, wired_names, around_more, given_next, items_stuck, all_given}
use Rattle.net_load.proofs.sources.load_items.Goals as goal

pub loop-i-init : goal.loop-i-init
loop-i-init g c =
    let s : Shelved = shelved g.S.Shelf.holds g.S.Shelf.faults c.args.shelf.now c.args.shelf.now in
    record {
      network = c.requires.network;
      around = record { kill = refl; cores = refl; collectors = refl; queues = refl };
      names = wired_names s c.args.plan.now c.args.net.now c.requires.wired;
      items = λ k source below here. absurd (omega (arith, below));
      same = λ n. refl;
      later = λ n. omega arith;
    }

pub read_items-requires-clause-source : goal.read_items-requires-clause-source
read_items-requires-clause-source g c =
    let sources = c.args.plan.now.sources in
    let count : length c.loop-i.net.sources.items ≡ length sources = named_count c.loop-i.net sources c.loop-i.invariant.names in
    let same = ap length c.as_slice-sources.ensures in
    let below = c.loop-i-test.true in
    omega (arith, count, same, below)

pub returns-in_err-read_items-clause-judged : goal.returns-in_err-read_items-clause-judged
returns-in_err-read_items-clause-judged g c =
    let before : Shelved = shelved g.S.Shelf.holds g.S.Shelf.faults c.args.shelf.now c.loop-i.shelf in
    let small : Shelved = shelved g.S.Shelf.holds g.S.Shelf.faults c.loop-i.shelf c.read_items.new.shelf in
    let s : Shelved = shelved g.S.Shelf.holds g.S.Shelf.faults c.args.shelf.now c.read_items.new.shelf in
    let start : Shelved = shelved g.S.Shelf.holds g.S.Shelf.faults c.args.shelf.now c.args.shelf.now in
    let w : Within small s = late g.S.Shelf.holds g.S.Shelf.faults c.args.shelf.now c.loop-i.shelf c.read_items.new.shelf c.loop-i.invariant.same c.loop-i.invariant.later in
    let source = c.index-sources-i.result in
    let sources = c.args.plan.now.sources in
    let here : slice_get sources c.loop-i.i ≡ Some source = stands_at c.as_slice-sources.result.now sources c.loop-i.i source c.as_slice-sources.ensures c.loop-i-test.true c.index-sources-i.is in
    let wired : IsWiredOf s c.args.plan.now c.args.net.now = wired_seen start s (λ n. refl) c.args.plan.now c.args.net.now c.requires.wired in
    let p = err_from_is_err_and c.from_residual.result c.from_residual.ensures.1 in
    rw (p.1, p.2) (items_stuck small s before c.args.name.now c.args.plan.now c.args.net.now c.loop-i.net c.loop-i.i source _ (λ n. refl) w wired c.loop-i.invariant.around here
    c.loop-i.invariant.items c.in_err-read_items.ensures.judged)

pub loop-i-preserved : goal.loop-i-preserved
loop-i-preserved g c =
    let before : Shelved = shelved g.S.Shelf.holds g.S.Shelf.faults c.args.shelf.now c.loop-i.shelf in
    let small : Shelved = shelved g.S.Shelf.holds g.S.Shelf.faults c.loop-i.shelf c.read_items.new.shelf in
    let s : Shelved = shelved g.S.Shelf.holds g.S.Shelf.faults c.args.shelf.now c.read_items.new.shelf in
    let w : Within small s = late g.S.Shelf.holds g.S.Shelf.faults c.args.shelf.now c.loop-i.shelf c.read_items.new.shelf c.loop-i.invariant.same c.loop-i.invariant.later in
    let source = c.index-sources-i.result in
    let sources = c.args.plan.now.sources in
    let here : slice_get sources c.loop-i.i ≡ Some source = stands_at c.as_slice-sources.result.now sources c.loop-i.i source c.as_slice-sources.ensures c.loop-i-test.true c.index-sources-i.is in
    let only = c.in_ok-read_items.ensures.only in
    record {
      network = c.in_ok-read_items.ensures.network;
      around = around_more c.loop-i.i c.args.net.now c.loop-i.net c.read_items.new.net c.loop-i.invariant.around only;
      names = only.names ∙ c.loop-i.invariant.names;
      items = given_next small s before c.args.net.now c.loop-i.net c.read_items.new.net sources c.loop-i.i source (λ n. refl) w c.loop-i.invariant.around only here
          c.loop-i.invariant.items c.in_ok-read_items.ensures.judged;
      same = λ n. c.in_ok-read_items.ensures.same n ∙ c.loop-i.invariant.same n;
      later = λ n. let a = c.loop-i.invariant.later n in let b = c.in_ok-read_items.ensures.later n in omega arith;
    }

pub returns-clause-judged : goal.returns-clause-judged
returns-clause-judged g c =
    let s : Shelved = shelved g.S.Shelf.holds g.S.Shelf.faults c.args.shelf.now c.loop-i.shelf in
    let at_end : length c.args.plan.now.sources ≡ c.loop-i.i = let same = ap length c.as_slice-sources.ensures in let past = c.loop-i-test.false in let most = c.loop-i.auto.i-end in omega (arith, same, past, most) in
    all_given s c.args.net.now c.loop-i.net c.args.plan.now.sources c.loop-i.i c.loop-i.invariant.around c.loop-i.invariant.names at_end c.loop-i.invariant.items
