use Rattle.std.proofs.Common.{List, ap, ◌∙◌}
use Rattle.std.specs.List.{list_any}
use Rattle.tie_grammar.specs.declared.tree.Decl.{Decl}
use Rattle.tie_rules.specs.Names.{has}
use Rattle.tie_rules.specs.Declarations.{gives_opcodes}
use Rattle.tie_rules.specs.NameSets.{has_name, given_slot}
use Rattle.tie_rules.proofs.NamedItems.{same_names}
use Rattle.tie_rules.proofs.SlotLists.{given_named}
use Rattle.tie_rules.proofs.slots.given_in.Goals as goal

pub returns : goal.returns
returns c =
    let t = c.args.tree.now in
    same_names c.names_in.result (λ q. list_any (has_name given_slot q) c.as_slice.result.now) (λ q. has (gives_opcodes q) t)
    (λ q. ap (λ (decls : List Decl). list_any (has_name given_slot q) decls) c.as_slice.ensures ∙ given_named q t.declarations) c.names_in.ensures
