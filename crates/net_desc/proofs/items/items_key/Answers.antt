use Rattle.std.proofs.Common.{◌++◌, append_assoc, ap, sym, ◌∙◌, codes}
use Rattle.std.specs.Fmt.{decimal}
use Rattle.net_desc.proofs.items.items_key.Goals as goal

pub returns : goal.returns
returns c =
    c.new.ensures ∙ c.in_ok-format.ensures.ok
    ∙ ap (λ xs. codes "source[" ++ xs) (sym (append_assoc (decimal c.args.source) (codes "]") (codes ".items")))
