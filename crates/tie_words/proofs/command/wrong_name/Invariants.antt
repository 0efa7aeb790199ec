use Rattle.std.proofs.Common.{◌≡◌, ◌≤◌, drop, map, string_bytes}
use Rattle.tie_words.specs.Reading.{wrong_from}
use Rattle.tie_words.proofs.command.wrong_name.Given as goal

abbrev pub invariant-loop-name : goal.invariant-loop-name
invariant-loop-name l = record {
  counts : l.number ≡ l.name-index;
  within : l.number ≤ l.most;
  read : wrong_from l.least l.most l.number (drop l.name-index (map string_bytes l.names)) ≡ wrong_from l.least l.most 0 (map string_bytes l.names);
}
