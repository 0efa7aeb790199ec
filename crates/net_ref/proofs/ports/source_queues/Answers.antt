use Rattle.std.proofs.Common.{arith}
use Rattle.std.proofs.lemmas.Grind.{common_steps}
use Rattle.std.proofs.lemmas.List.FromFn.{map-range_with_len_more}
use Rattle.net_ref.specs.Workers.{source_queue}
use Rattle.net_ref.proofs.ports.source_queues.Goals as goal

pub loop-s-preserved : goal.loop-s-preserved
loop-s-preserved c =
    let more = map-range_with_len_more (source_queue c.args.net.now) 0 c.loop-s.s c.loop-s.s (omega arith) in
    grind (arith, common_steps, more)
