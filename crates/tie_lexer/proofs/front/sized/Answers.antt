use Rattle.std.proofs.Common.{◌+◌, length, ap, arith, length-drop}
use Rattle.std.proofs.lemmas.List.Sums.{prefix_len-le-length}
use Rattle.tie_lexer.specs.Bytes.{is_digit, is_value_byte}
use Rattle.tie_lexer.proofs.front.sized.Goals as goal

-- the width and the value are within the text
pub overflow_add-n-then-has_value : goal.overflow_add-n-then-has_value
overflow_add-n-then-has_value c =
    omega (
      arith,
      prefix_len-le-length is_digit c.args.rest.now,
      prefix_len-le-length (is_value_byte c.byte_at-base.result) c.behind-value.result.now,
      ap length c.behind-value.ensures,
      length-drop (c.args.width + 2) c.args.rest.now,
    )
