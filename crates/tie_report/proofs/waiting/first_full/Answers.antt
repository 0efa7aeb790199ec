use Rattle.std.proofs.Common.{ℕ, Bool, ◌∙◌}
use Rattle.std.specs.Prelude.{slice_get}
use Rattle.net_ref.specs.Workers.{capacity_of, output_queue}
use Rattle.tie_report.specs.Standing.{is_full}
use Rattle.tie_report.proofs.Found.{found_here, found_later}
use Rattle.tie_report.proofs.waiting.first_full.Goals as goal

pub returns-in-Some : goal.returns-in-Some
returns-in-Some c test e =
    let passes : ℕ → Bool = λ q. is_full (capacity_of (slice_get c.args.net.now.queues.items q)) (slice_get c.args.end.now.queues.items q) in
    found_here passes (output_queue c.args.net.now c.args.c) test c.loop-o.o c.args.count c.in-Some.q c.loop-o-test.true (c.in-Some.ensures test e) ∙ c.loop-o.invariant test e

pub loop-o-preserved : goal.loop-o-preserved
loop-o-preserved c test e =
    let passes : ℕ → Bool = λ q. is_full (capacity_of (slice_get c.args.net.now.queues.items q)) (slice_get c.args.end.now.queues.items q) in
    found_later passes (output_queue c.args.net.now c.args.c) test c.loop-o.o c.args.count c.loop-o-test.true (c.in_default.ensures test e) ∙ c.loop-o.invariant test e
