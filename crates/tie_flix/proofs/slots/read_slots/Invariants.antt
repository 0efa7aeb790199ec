use Rattle.std.proofs.Common.{length, drop, ◌≡◌, ◌≤◌, []}
use Rattle.tie_flix.specs.Reading.{read_slots}
use Rattle.tie_flix.proofs.slots.read_slots.Given as goal

abbrev pub invariant-loop-slot : goal.invariant-loop-slot
invariant-loop-slot l = record {
  read : read_slots l.desc (drop l.slot-index l.slots) l.parts.items l.rest ≡ read_slots l.desc l.slots [] l.bits;
  few : length l.parts.items ≤ l.slot-index;
}
