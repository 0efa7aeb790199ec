use Rattle.std.proofs.Common.{List, ap, ◌∙◌}
use Rattle.std.specs.List.{list_any}
use Rattle.tie_grammar.specs.declared.tree.Decl.{Decl}
use Rattle.tie_rules.specs.Names.{has}
use Rattle.tie_rules.specs.Declarations.{has_slot}
use Rattle.tie_rules.specs.NameSets.{lists_name, slots_of}
use Rattle.tie_rules.proofs.NamedItems.{same_names}
use Rattle.tie_rules.proofs.SlotLists.{slots_named}
use Rattle.tie_rules.proofs.slots.slots_in.Goals as goal

pub returns : goal.returns
returns c =
    let t = c.args.tree.now in
    same_names c.leaves_in.result (λ q. list_any (lists_name slots_of q) c.as_slice.result.now) (λ q. has (has_slot q) t)
    (λ q. ap (λ (decls : List Decl). list_any (lists_name slots_of q) decls) c.as_slice.ensures ∙ slots_named q t.declarations) c.leaves_in.ensures
