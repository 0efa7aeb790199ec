use Rattle.std.proofs.Common.{◌∙◌, arith}
use Rattle.core_text.proofs.HexDigits.{hex_digits-more}
use Rattle.core_text.proofs.digits.push_hex.Goals as goal

pub loop-left-preserved : goal.loop-left-preserved
loop-left-preserved c = record {
  within = omega arith;
  written = hex_digits-more _ _ c.loop-left.left c.args.value (omega arith) c.in_ok-push_digit.ensures ∙ c.loop-left.invariant.written;
}
