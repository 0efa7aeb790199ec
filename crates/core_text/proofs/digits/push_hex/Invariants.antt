use Rattle.std.proofs.Common.{◌≡◌, ◌≤◌, ◌++◌, string_bytes}
use Rattle.core_text.specs.Digits.{hex_digits}
use Rattle.core_text.proofs.digits.push_hex.Given as goal

abbrev pub invariant-loop-left : goal.invariant-loop-left
invariant-loop-left l = record {
  within : l.left ≤ l.count;
  written : string_bytes l.text ++ hex_digits l.left l.value ≡ string_bytes l.fn.text ++ hex_digits l.count l.value;
}

abbrev pub decreases-loop-left : goal.decreases-loop-left
decreases-loop-left l = l.left
