use Rattle.std.proofs.Common.{Bool, List, codes, if◌then◌else◌, sym, ap, ◌∙◌}
use Rattle.std.specs.List.{flat_map}
use Rattle.tie_mean.specs.Names.{kind_declared, width_in}
use Rattle.tie_mean.specs.Sizes.{limited}
use Rattle.tie_grammar.specs.declared.tree.Decl.{Decl}
use Rattle.tie_results.proofs.Declared.{limited_first}
use Rattle.tie_results.proofs.widths.kind_width.Goals as goal

pub returns : goal.returns
returns c =
    c.unwrap_or.ensures ∙ limited_first kind_declared c.as_slice.result.now c.args.kind.now.bytes c.declared_kind.result (sym c.declared_kind.ensures)
    ∙ ap (λ (ds : List Decl). limited (width_in (flat_map kind_declared ds) c.args.kind.now.bytes)) c.as_slice.ensures
    ∙ ap (λ (b : Bool). limited (if b then 32 else width_in (flat_map kind_declared c.args.tree.now.declarations) c.args.kind.now.bytes)) (sym c.if-is_address.false ∙ c.is_address.ensures)
