use Rattle.std.proofs.Common.{◌≡◌, length, ◌+◌, ◌-◌, ◌≤◌, drop}
use Rattle.asm_lines.specs.Tokens.{scan, with_front, tokens, first_spot}
use Rattle.asm_lines.proofs.scan.tokens.Given as goal

-- what is found goes on with the tokens of the rest
abbrev pub invariant-loop-at : goal.invariant-loop-at
invariant-loop-at l = record {
  within : l.at ≤ length l.text;
  line : l.spot.line ≤ l.at + 1;
  column : l.spot.column ≤ l.at + 1;
  goes_on : with_front l.found.items (scan (drop l.at l.text) 0 l.spot) ≡ scan l.text 0 first_spot;
}

abbrev pub decreases-loop-at : goal.decreases-loop-at
decreases-loop-at l = length l.text - l.at
