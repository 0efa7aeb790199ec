use Rattle.std.proofs.Common.{arith}
use Rattle.tie_report.proofs.Rest.{cores_more, made_at}
use Rattle.tie_report.proofs.cores.push_cores.Goals as goal

pub push_one-requires : goal.push_one-requires
push_one-requires c =
    made_at c.args.net.now c.args.end.now c.loop-c.c c.index.result.now c.index-in-loop-c.result.now c.requires (omega arith) c.index.ensures c.index-in-loop-c.ensures

pub loop-c-preserved : goal.loop-c-preserved
loop-c-preserved c =
    cores_more c.args.net.now c.args.end.now c.args.stepped c.loop-c.c c.args.net.now.cores.items c.args.end.now.cores.items c.index.result.now c.index-in-loop-c.result.now
    _ _ _ (omega arith) (omega (arith, c.requires.core_count)) c.index.ensures c.index-in-loop-c.ensures c.in_ok-push_one.ensures c.loop-c.invariant
