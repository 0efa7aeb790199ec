use Rattle.std.proofs.Common.{List, ap, ◌∙◌}
use Rattle.std.specs.List.{list_any}
use Rattle.tie_grammar.specs.declared.tree.Item.{Item}
use Rattle.tie_rules.specs.Names.{body, is_assigned}
use Rattle.tie_rules.specs.NameSets.{set_name}
use Rattle.tie_rules.specs.NameSets.{has_name}
use Rattle.tie_rules.proofs.NamedItems.{sets_named, same_names}
use Rattle.tie_rules.proofs.body_names.assigned_in.Goals as goal

pub returns : goal.returns
returns c =
    let decl = c.args.decl.now in
    same_names c.names_in.result (λ q. list_any (has_name set_name q) c.body.result.now) (λ q. is_assigned q decl)
    (λ q. ap (λ (items : List Item). list_any (has_name set_name q) items) c.body.ensures ∙ sets_named q (body decl)) c.names_in.ensures
