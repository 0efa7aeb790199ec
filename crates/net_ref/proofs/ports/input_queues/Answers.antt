use Rattle.std.proofs.Common.{arith}
use Rattle.std.proofs.lemmas.Grind.{common_steps}
use Rattle.std.proofs.lemmas.List.FromFn.{map-range_with_len_more}
use Rattle.net_ref.specs.Workers.{input_queue}
use Rattle.net_ref.proofs.ports.input_queues.Goals as goal

pub loop-i-preserved : goal.loop-i-preserved
loop-i-preserved c =
    let more = map-range_with_len_more (input_queue c.args.net.now c.args.c) 0 c.loop-i.i c.loop-i.i (omega arith) in
    grind (arith, common_steps, more)
