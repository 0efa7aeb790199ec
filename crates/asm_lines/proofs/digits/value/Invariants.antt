use Rattle.std.proofs.Common.{◌≡◌, ◌≤◌, min, drop}
use Rattle.std.specs.Str.Parse.{digits_value, digits_value_after}
use Rattle.asm_lines.specs.Tokens.{most}
use Rattle.asm_lines.proofs.digits.value.Given as goal

abbrev pub invariant-loop-digit : goal.invariant-loop-digit
invariant-loop-digit l = record {
  small : l.value ≤ most;
  so_far : min (digits_value_after l.base l.value (drop l.digit-index l.digits)) most ≡ min (digits_value l.base l.digits) most;
}
