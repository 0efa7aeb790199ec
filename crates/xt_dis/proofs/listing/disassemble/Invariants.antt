use Rattle.std.proofs.Common.{◌≤◌, ◌-◌, ◌++◌, ℕ, List, length, drop}
use Rattle.xt_dis.specs.Listing.{Lists}
use Rattle.xt_dis.proofs.listing.disassemble.Given as goal

abbrev pub invariant-loop-at : goal.invariant-loop-at
invariant-loop-at l = record {
  within : l.at ≤ length l.bytes;
  kept : (others : List ℕ) → Lists l.desc l.at (drop l.at l.bytes) others → Lists l.desc 0 l.bytes (l.text.items ++ others);
}

abbrev pub decreases-loop-at : goal.decreases-loop-at
decreases-loop-at l = length l.initial.bytes - l.at
