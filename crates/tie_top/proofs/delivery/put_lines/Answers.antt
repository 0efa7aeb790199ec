use Rattle.std.proofs.Common.{◌≤◌, arith}
use Rattle.tie_top.proofs.Writing.{Grew-append, take-between, GrewWithin_put}
use Rattle.tie_top.proofs.delivery.put_lines.Goals as goal

pub loop-done-preserved : goal.loop-done-preserved
loop-done-preserved g c =
    let forward : c.loop-done.done ≤ c.line_end-end.result = omega arith in
    record {
      within = omega arith;
      later = omega (arith, c.in-Ok.ensures.later);
      written = rw (take-between c.loop-done.done c.line_end-end.result c.args.text.now forward) (Grew-append _ _ _ _ _ c.loop-done.invariant.written c.in-Ok.ensures.bytes);
    }

pub returns-in-Err-clause-err : goal.returns-in-Err-clause-err
returns-in-Err-clause-err g c =
    let forward : c.loop-done.done ≤ c.line_end-end.result = omega arith in
    GrewWithin_put _ _ _ c.args.text.now c.loop-done.done c.line_end-end.result c.in-Err.fault forward c.loop-done.invariant.written c.in-Err.ensures.bytes
