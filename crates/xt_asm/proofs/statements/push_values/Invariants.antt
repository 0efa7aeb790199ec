use Rattle.std.proofs.Common.{◌≡◌, ◌++◌, drop}
use Rattle.std.specs.List.{flat_map}
use Rattle.xt_asm.specs.Bytes.{value_bytes}
use Rattle.xt_asm.specs.Spelled.{AreValues}
use Rattle.xt_asm.proofs.statements.push_values.Given as goal

abbrev pub invariant-loop-operand : goal.invariant-loop-operand
invariant-loop-operand l = record {
  accepted : AreValues l.desc l.size (drop l.operand-index l.values);
  bytes : l.out.items ++ flat_map (value_bytes l.size) (drop l.operand-index l.values) ≡ l.fn.out.items ++ flat_map (value_bytes l.size) l.values;
}
