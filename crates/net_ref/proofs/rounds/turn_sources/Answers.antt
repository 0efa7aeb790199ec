use Rattle.std.proofs.Common.{Bool, ◌≡◌, ◌+◌, subst, sym, arith}
use Rattle.net_ref.specs.Workers.{core_count, source_count}
use Rattle.net_ref.specs.Shown.{ArePart, turns_of}
use Rattle.net_ref.proofs.RoundLemmas.{part_more}
use Rattle.net_ref.proofs.rounds.turn_sources.Goals as goal

pub loop-s-preserved : goal.loop-s-preserved
loop-s-preserved c = record {
  whole = c.in_ok-went.ensures.whole;
  part = λ nodes before.
      let net = c.args.net.now in
      let w = core_count net + c.loop-s.s in
      let p = c.loop-s.invariant.part nodes before in
      let next : w + 1 ≡ core_count net + (c.loop-s.s + 1) = omega arith in
      subst (λ n. ArePart c.args.bounded net nodes n c.either-moved.result c.turn_source.new.run) next
      (subst (λ (b : Bool). ArePart c.args.bounded net nodes (w + 1) b c.turn_source.new.run) (sym c.either-moved.ensures)
      (part_more c.args.bounded net nodes w c.loop-s.moved c.in_ok-went.went c.loop-s.run c.turn_source.new.run p
      (c.in_ok-went.ensures.turn (turns_of c.args.bounded net nodes w) p.shows)));
}

pub returns-clause-part : goal.returns-clause-part
returns-clause-part c nodes before =
    let net = c.args.net.now in
    let e : core_count net + c.loop-s.s ≡ core_count net + source_count net = omega arith in
    subst (λ n. ArePart c.args.bounded net nodes n c.loop-s.moved c.loop-s.run) e (c.loop-s.invariant.part nodes before)
