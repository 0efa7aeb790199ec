use Rattle.std.proofs.Common.{◌≡◌, ◌+◌, ◌*◌, ◌≤◌, min, drop, get_or, arith, ap, sym, ◌∙◌, refl}
use Rattle.std.specs.Char.{digit_value}
use Rattle.std.specs.Str.Parse.{digits_value_after}
use Rattle.asm_lines.specs.Tokens.{most}
use Rattle.asm_lines.proofs.DigitSteps.{value_step}
use Rattle.asm_lines.proofs.digits.value.Goals as goal

pub loop-digit-preserved : goal.loop-digit-preserved
loop-digit-preserved c =
    let ds = c.args.digits.now in
    let v = c.loop-digit.value in
    let i = c.loop-digit.digit-index in
    let is : c.min-value.result ≡ min (v * c.args.base + digit_value (get_or ds i 0)) most =
    c.min-value.ensures ∙ ap (λ d. min (v * c.args.base + d) most) c.digit_value.ensures.value in
    record {
      small = omega (arith, c.min-value.ensures);
      so_far = ap (λ z. min (digits_value_after c.args.base z (drop (i + 1) ds)) most) is
          ∙ value_step c.args.base most v ds i (get_or ds i 0) c.requires.some c.loop-digit-test.true refl ∙ c.loop-digit.invariant.so_far;
    }
