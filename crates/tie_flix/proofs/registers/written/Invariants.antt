use Rattle.std.proofs.Common.{length, take, ◌≡◌, ◌≤◌, ◌*◌}
use Rattle.std.specs.List.{flat_map}
use Rattle.tie_desc.specs.Spots.{written_registers}
use Rattle.tie_flix.proofs.registers.written.Given as goal

abbrev pub invariant-loop-part : goal.invariant-loop-part
invariant-loop-part l = record {
  so_far : l.out ≡ flat_map (written_registers l.desc) (take l.part-index l.parts);
  few : length l.out ≤ 3 * l.part-index;
}
