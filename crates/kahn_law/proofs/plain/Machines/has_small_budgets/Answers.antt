-- The sum goes up by one machine's budget, and where it would overflow all budgets are too large.
use Rattle.std.proofs.Common.{◌≡◌, ◌+◌, ◌^◌, ◌≤◌, length, ap, rules, arith}
use Rattle.kahn_law.specs.declared.plain.Machine.{Machine}
use Rattle.std.proofs.Common.{List}
use Rattle.kahn_law.specs.Machines.{budgets_to}
use Rattle.kahn_law.proofs.MachineLemmas.{budgets_at, budgets_more}
use Rattle.kahn_law.proofs.plain.Machines.has_small_budgets.Goals as goal

pub returns-in-None : goal.returns-in-None
returns-in-None c =
    let net = c.args.self.now in
    let i = c.loop-machine.machine-index in
    let step = budgets_at net c.deref-machine-items.result.now i c.machine-item.result c.deref-machine-items.ensures.value c.loop-machine-test.true c.machine-item.is in
    let len : length c.deref-machine-items.result.now ≡ length net.machines.items = ap (λ (xs : List Machine). length xs) c.deref-machine-items.ensures.value in
    let in_list = c.loop-machine-test.true in
    let more = budgets_more net (i + 1) (length net.machines.items) (omega arith) in
    let so_far : c.loop-machine.total ≡ budgets_to net i = c.loop-machine.invariant in
    let large : 2 ^ 64 ≤ c.loop-machine.total + c.machine-item.result.budget = omega (arith, c.in-None.ensures) in
    (λ e. search rules, λ lt. absurd (omega arith))

pub loop-machine-preserved : goal.loop-machine-preserved
loop-machine-preserved c =
    let net = c.args.self.now in
    let i = c.loop-machine.machine-index in
    let step = budgets_at net c.deref-machine-items.result.now i c.machine-item.result c.deref-machine-items.ensures.value c.loop-machine-test.true c.machine-item.is in
    let so_far : c.loop-machine.total ≡ budgets_to net i = c.loop-machine.invariant in
    let r : c.in-Some.sum ≡ budgets_to net (i + 1) = omega (arith, c.in-Some.ensures) in r
