use Rattle.std.proofs.Common.{◌≡◌, drop}
use Rattle.asm_rules.specs.Rules.{unlisted_in}
use Rattle.asm_rules.proofs.breach.unlisted_in.Given as goal

abbrev pub invariant-loop-i : goal.invariant-loop-i
invariant-loop-i l = unlisted_in (drop l.i l.slots) (drop l.i l.operations) ≡ unlisted_in l.slots l.operations
