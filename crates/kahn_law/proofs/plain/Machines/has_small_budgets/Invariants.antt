use Rattle.std.proofs.Common.{◌≡◌}
use Rattle.kahn_law.specs.Machines.{budgets_to}
use Rattle.kahn_law.proofs.plain.Machines.has_small_budgets.Given as goal

abbrev pub invariant-loop-machine : goal.invariant-loop-machine
invariant-loop-machine l = l.total ≡ budgets_to l.self l.machine-index
