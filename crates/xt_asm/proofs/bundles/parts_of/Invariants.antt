use Rattle.std.proofs.Common.{◌≡◌, ◌++◌, drop, length, map}
use Rattle.xt_asm.specs.Bytes.{part_of}
use Rattle.xt_asm.proofs.bundles.parts_of.Given as goal

abbrev pub invariant-loop-operation : goal.invariant-loop-operation
invariant-loop-operation l = record {
  count : length l.parts.items ≡ l.operation-index;
  parts : l.parts.items ++ map (part_of l.desc) (drop l.operation-index l.operations) ≡ map (part_of l.desc) l.operations;
}
