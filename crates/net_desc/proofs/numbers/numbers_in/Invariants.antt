use Rattle.std.proofs.Common.{◌≡◌, ◌+◌, ◌*◌, ◌/◌, ◌≤◌, ◌++◌, length, map}
use Rattle.net_desc.specs.Items.{number_in, numbers_in, pieces}
use Rattle.net_desc.proofs.numbers.numbers_in.Given as goal

abbrev pub decreases-loop-left : goal.decreases-loop-left
decreases-loop-left l = l.left

abbrev pub invariant-loop-left : goal.invariant-loop-left
invariant-loop-left l = record {
  value : l.numbers.items ++ map number_in (pieces l.left l.size l.rest) ≡ numbers_in l.size l.bytes;
  room : l.left * l.size ≤ length l.rest;
  count : length l.numbers.items + l.left ≡ length l.bytes / l.size;
}
