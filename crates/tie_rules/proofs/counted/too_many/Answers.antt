use Rattle.std.proofs.Common.{ℕ, List, Option, ap, ◌∙◌}
use Rattle.tie_grammar.specs.declared.tree.Decl.{Decl}
use Rattle.tie_rules.specs.Least.{earlier, least, behind}
use Rattle.tie_rules.specs.Tallies.{at_count, sort_number, many_of_sort, format_width, many_of_width}
use Rattle.tie_rules.proofs.Counting.{too_many_parts}
use Rattle.tie_rules.proofs.counted.too_many.Goals as goal

pub returns : goal.returns
returns c =
    c.earlier.ensures ∙ ap (λ (o : Option ℕ). earlier o c.in_ok-formats.formats) c.in_ok-sorts.ensures
    ∙ ap (earlier (least (behind (at_count sort_number many_of_sort) c.as_slice-decls.result.now))) c.in_ok-formats.ensures
    ∙ ap (λ (decls : List Decl). earlier (least (behind (at_count sort_number many_of_sort) decls)) (least (behind (at_count format_width many_of_width) decls))) c.as_slice-decls.ensures
    ∙ too_many_parts c.args.tree.now
