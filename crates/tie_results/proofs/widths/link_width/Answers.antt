use Rattle.std.proofs.Common.{List, sym, ap, ◌∙◌}
use Rattle.std.specs.List.{flat_map}
use Rattle.std.specs.Option.{unwrap_or}
use Rattle.tie_mean.specs.Names.{link_declared, width_in}
use Rattle.tie_mean.specs.Sizes.{limited}
use Rattle.tie_grammar.specs.declared.tree.Decl.{Decl}
use Rattle.tie_results.proofs.Declared.{limited_first}
use Rattle.tie_results.proofs.widths.link_width.Goals as goal

pub returns : goal.returns
returns c =
    c.unwrap_or.ensures ∙ limited_first link_declared c.as_slice.result.now c.args.name.now.bytes c.declared_link.result (sym c.declared_link.ensures)
    ∙ ap (λ (ds : List Decl). limited (width_in (flat_map link_declared ds) c.args.name.now.bytes)) c.as_slice.ensures
