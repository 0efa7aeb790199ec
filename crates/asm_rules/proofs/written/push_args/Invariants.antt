use Rattle.std.proofs.Common.{◌≡◌, drop, ◌++◌}
use Rattle.asm_rules.specs.Slots.{written_in}
use Rattle.asm_rules.proofs.written.push_args.Given as goal

abbrev pub invariant-loop-i : goal.invariant-loop-i
invariant-loop-i l = l.out.items ++ written_in l.desc (drop l.i l.args) (drop l.i l.operands) ≡ l.fn.out.items ++ written_in l.desc l.args l.operands
