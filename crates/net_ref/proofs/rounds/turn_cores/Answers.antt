use Rattle.net_ref.specs.Shown.{turns_of}
use Rattle.net_ref.proofs.RoundLemmas.{part_start, part_more}
use Rattle.std.proofs.Common.{Bool, ◌≡◌, ◌+◌, subst, sym, arith}
use Rattle.net_ref.specs.Workers.{core_count}
use Rattle.net_ref.specs.Shown.{ArePart}
use Rattle.net_ref.proofs.rounds.turn_cores.Goals as goal

pub loop-c-init : goal.loop-c-init
loop-c-init c = record { whole = c.requires.whole; part = λ nodes shows. part_start c.args.bounded c.args.net.now nodes c.args.run.now shows }

pub loop-c-preserved : goal.loop-c-preserved
loop-c-preserved c = record {
  whole = c.in_ok-went.ensures.whole;
  part = λ nodes shows.
      let p = c.loop-c.invariant.part nodes shows in
      subst (λ (b : Bool). ArePart c.args.bounded c.args.net.now nodes (c.loop-c.c + 1) b c.turn_core.new.run) (sym c.either-moved.ensures)
      (part_more c.args.bounded c.args.net.now nodes c.loop-c.c c.loop-c.moved c.in_ok-went.went c.loop-c.run c.turn_core.new.run p
      (c.in_ok-went.ensures.turn (turns_of c.args.bounded c.args.net.now nodes c.loop-c.c) p.shows));
}

pub returns-clause-part : goal.returns-clause-part
returns-clause-part c nodes shows =
    let e : c.loop-c.c ≡ core_count c.args.net.now = omega arith in
    subst (λ n. ArePart c.args.bounded c.args.net.now nodes n c.loop-c.moved c.loop-c.run) e (c.loop-c.invariant.part nodes shows)
