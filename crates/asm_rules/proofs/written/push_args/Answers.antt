use Rattle.std.proofs.Common.{◌≡◌, ◌++◌, ◌∙◌, drop, sym, ap}
use Rattle.std.proofs.lemmas.List.{append-nil}
use Rattle.asm_rules.specs.Slots.{written_in}
use Rattle.asm_rules.proofs.Steps.{written_done}
use Rattle.asm_rules.proofs.written.push_args.Goals as goal

pub returns : goal.returns
returns c =
    sym (append-nil c.loop-i.out.items)
    ∙ ap (λ z. c.loop-i.out.items ++ z) (sym (written_done c.args.desc.now c.args.args.now c.args.operands.now c.loop-i.i c.loop-i-test.false))
    ∙ c.loop-i.invariant
