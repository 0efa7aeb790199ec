use Rattle.std.proofs.Common.{◌≡◌, drop, None}
use Rattle.std.specs.Option.{option_copied}
use Rattle.tie_results.specs.Callees.{callee_in}
use Rattle.tie_results.proofs.frame.find_callee.Given as goal

abbrev pub invariant-loop-callee : goal.invariant-loop-callee
invariant-loop-callee l = callee_in (drop l.callee-index l.callees) l.name.bytes (option_copied l.found) ≡ callee_in l.callees l.name.bytes None
