use Rattle.std.proofs.Common.{Bool, ◌≡◌, ◌+◌, subst, sym, arith}
use Rattle.net_ref.specs.Workers.{core_count, source_count, collector_count}
use Rattle.net_ref.specs.Shown.{ArePart, turns_of}
use Rattle.net_ref.proofs.RoundLemmas.{part_more}
use Rattle.net_ref.proofs.rounds.turn_collectors.Goals as goal

pub loop-k-preserved : goal.loop-k-preserved
loop-k-preserved c = record {
  whole = c.in_ok-went.ensures.whole;
  part = λ bounded nodes before.
      let net = c.args.net.now in
      let w = core_count net + source_count net + c.loop-k.k in
      let p = c.loop-k.invariant.part bounded nodes before in
      let next : w + 1 ≡ core_count net + source_count net + (c.loop-k.k + 1) = omega arith in
      subst (λ n. ArePart bounded net nodes n c.either-moved.result c.turn_collector.new.run) next
      (subst (λ (b : Bool). ArePart bounded net nodes (w + 1) b c.turn_collector.new.run) (sym c.either-moved.ensures)
      (part_more bounded net nodes w c.loop-k.moved c.in_ok-went.went c.loop-k.run c.turn_collector.new.run p
      (c.in_ok-went.ensures.turn bounded (turns_of bounded net nodes w) p.shows)));
}

pub returns-clause-part : goal.returns-clause-part
returns-clause-part c bounded nodes before =
    let net = c.args.net.now in
    let e : core_count net + source_count net + c.loop-k.k ≡ core_count net + source_count net + collector_count net = omega arith in
    subst (λ n. ArePart bounded net nodes n c.loop-k.moved c.loop-k.run) e (c.loop-k.invariant.part bounded nodes before)
