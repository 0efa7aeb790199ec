use Rattle.std.proofs.Common.{◌≡◌, ◌≤◌, ◌*◌, All, length, take}
use Rattle.xt_operate.specs.Values.{IsHeld}
use Rattle.xt_exec.specs.Effect.{parts_values}
use Rattle.xt_exec.specs.Places.{get}
use Rattle.xt_exec.specs.Queues.{item_of}
use Rattle.xt_exec.proofs.places.parts_values.Given as goal

-- what the parts so far write
abbrev pub invariant-loop-part : goal.invariant-loop-part
invariant-loop-part l = record {
  so_far : l.out ≡ parts_values l.desc (take l.part-index l.parts) l.arch.pc (get l.arch (item_of l.desc l.heads));
  few : length l.out ≤ 12 * l.part-index;
  fit : All (IsHeld l.desc) l.out;
}
