use Rattle.std.proofs.Common.{arith}
use Rattle.std.proofs.lemmas.Grind.{common_steps}
use Rattle.std.proofs.lemmas.List.FromFn.{map-range_with_len_more}
use Rattle.net_ref.specs.Workers.{output_queue}
use Rattle.net_ref.proofs.ports.output_queues.Goals as goal

pub loop-o-preserved : goal.loop-o-preserved
loop-o-preserved c =
    let more = map-range_with_len_more (output_queue c.args.net.now c.args.c) 0 c.loop-o.o c.loop-o.o (omega arith) in
    grind (arith, common_steps, more)
