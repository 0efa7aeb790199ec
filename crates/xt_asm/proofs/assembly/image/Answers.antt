use Rattle.std.proofs.Common.{ℕ, List, sym, ap, ◌∙◌, ◌++◌}
use Rattle.std.proofs.lemmas.List.{append-nil}
use Rattle.std.specs.HashMap.{get_by_text}
use Rattle.asm_rules.specs.Labels.{find_in}
use Rattle.xt_asm.proofs.Rows.{image_done}
use Rattle.xt_asm.proofs.assembly.image.Goals as goal

pub returns : goal.returns
returns c =
    let find = find_in c.args.addresses.now (λ (q : List ℕ). get_by_text c.args.labels.now q) in
    sym (append-nil c.loop-i.out.items)
    ∙ ap (λ z. c.loop-i.out.items ++ z) (sym (image_done c.args.desc.now find c.args.addresses.now c.args.lines.now c.loop-i.i c.loop-i-test.false))
    ∙ c.loop-i.invariant.bytes
