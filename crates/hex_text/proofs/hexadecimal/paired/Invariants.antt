use Rattle.std.proofs.Common.{◌≡◌, ◌*◌, ◌++◌, length, drop}
use Rattle.hex_text.specs.Hexadecimal as hexadecimal
use Rattle.hex_text.proofs.hexadecimal.paired.Given as goal

abbrev pub invariant-loop-i : goal.invariant-loop-i
invariant-loop-i l = record {
  read : l.bytes.items ++ hexadecimal.paired (drop (2 * l.i) l.digits) ≡ hexadecimal.paired l.digits;
  size : length l.bytes.items ≡ l.i;
}
