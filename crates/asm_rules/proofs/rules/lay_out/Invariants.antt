use Rattle.std.proofs.Common.{◌≡◌, drop, ◌++◌, ◌≤◌}
use Rattle.asm_rules.specs.Labels.{addresses}
use Rattle.asm_rules.specs.Rules.{long_from}
use Rattle.asm_rules.proofs.rules.lay_out.Given as goal

abbrev pub invariant-loop-line : goal.invariant-loop-line
invariant-loop-line l = record {
  small : l.at ≤ 65536;
  long : long_from l.desc l.at (drop l.line-index l.lines) ≡ long_from l.desc 0 l.lines;
  so_far : l.found.items ++ addresses l.desc l.at (drop l.line-index l.lines) ≡ addresses l.desc 0 l.lines;
}
