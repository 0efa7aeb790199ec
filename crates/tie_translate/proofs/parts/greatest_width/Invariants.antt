use Rattle.std.proofs.Common.{◌≡◌, ◌<◌, ◌≤◌, drop, max}
use Rattle.tie_translate.proofs.Arms.{greatest_of}
use Rattle.tie_translate.proofs.parts.greatest_width.Given as goal

abbrev pub invariant-loop-part : goal.invariant-loop-part
invariant-loop-part l = record {
  is : max l.greatest (greatest_of (drop l.part-index l.parts)) ≡ greatest_of l.parts;
  high : l.greatest ≤ 128;
  some : 0 < l.part-index → 0 < l.greatest;
}
