use Rattle.std.proofs.Common.{sym, ◌∙◌}
use Rattle.tie_rules.proofs.Upper.{upper_differs}
use Rattle.tie_rules.proofs.mnemonics.same_upper.Goals as goal

pub returns-then-to_ascii_uppercase-word : goal.returns-then-to_ascii_uppercase-word
returns-then-to_ascii_uppercase-word c =
    sym (sym c.loop-i.invariant.1
    ∙ upper_differs c.args.name.now c.args.word.now c.loop-i.i c.loop-i-test.true c.loop-i.invariant.0 (λ e. c.if-to_ascii_uppercase-word.true (c.to_ascii_uppercase.ensures.value ∙ e)))
