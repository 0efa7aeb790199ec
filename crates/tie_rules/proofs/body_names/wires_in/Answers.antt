use Rattle.std.proofs.Common.{List, ap, ◌∙◌}
use Rattle.std.specs.List.{list_any}
use Rattle.tie_grammar.specs.declared.tree.Item.{Item}
use Rattle.tie_rules.specs.Names.{body, has_wire}
use Rattle.tie_rules.specs.Bodies.{wire_name}
use Rattle.tie_rules.specs.NameSets.{has_name}
use Rattle.tie_rules.proofs.NamedItems.{wires_named, same_names}
use Rattle.tie_rules.proofs.body_names.wires_in.Goals as goal

pub returns : goal.returns
returns c =
    let decl = c.args.decl.now in
    same_names c.names_in.result (λ q. list_any (has_name wire_name q) c.body.result.now) (λ q. has_wire q decl)
    (λ q. ap (λ (items : List Item). list_any (has_name wire_name q) items) c.body.ensures ∙ wires_named q (body decl)) c.names_in.ensures
