use Rattle.std.proofs.Common.{◌≡◌, drop, [], take}
use Rattle.asm_rules.specs.Slots.{repeated}
use Rattle.asm_rules.proofs.written.repeated.Given as goal

abbrev pub invariant-loop-i : goal.invariant-loop-i
invariant-loop-i l = repeated (take l.i l.written) (drop l.i l.written) ≡ repeated [] l.written
