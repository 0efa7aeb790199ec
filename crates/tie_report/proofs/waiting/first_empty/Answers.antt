use Rattle.std.proofs.Common.{ℕ, Bool, ◌∙◌}
use Rattle.std.specs.Prelude.{slice_get}
use Rattle.net_ref.specs.Workers.{input_queue}
use Rattle.tie_report.specs.Standing.{is_empty}
use Rattle.tie_report.proofs.Found.{found_here, found_later}
use Rattle.tie_report.proofs.waiting.first_empty.Goals as goal

pub returns-in-Some : goal.returns-in-Some
returns-in-Some c test e =
    let passes : ℕ → Bool = λ q. is_empty (slice_get c.args.end.now.queues.items q) in
    found_here passes (input_queue c.args.net.now c.args.c) test c.loop-i.i c.args.count c.in-Some.q c.loop-i-test.true (c.in-Some.ensures test e) ∙ c.loop-i.invariant test e

pub loop-i-preserved : goal.loop-i-preserved
loop-i-preserved c test e =
    let passes : ℕ → Bool = λ q. is_empty (slice_get c.args.end.now.queues.items q) in
    found_later passes (input_queue c.args.net.now c.args.c) test c.loop-i.i c.args.count c.loop-i-test.true (c.in_default.ensures test e) ∙ c.loop-i.invariant test e
