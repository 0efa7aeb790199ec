use Rattle.std.proofs.Common.{sym, ◌∙◌}
use Rattle.xt_mnemonics.proofs.Upper.{upper_differs}
use Rattle.xt_mnemonics.proofs.names.same_upper.Goals as goal

pub returns-then-to_ascii_uppercase-name : goal.returns-then-to_ascii_uppercase-name
returns-then-to_ascii_uppercase-name c =
    sym (sym c.loop-i.invariant.1
    ∙ upper_differs c.args.word.now c.args.name.now c.loop-i.i c.loop-i-test.true c.loop-i.invariant.0 (λ e. c.if-to_ascii_uppercase-name.true (c.to_ascii_uppercase.ensures.value ∙ e)))
