use Rattle.std.proofs.Common.{ℕ, List, Option, ap, ◌∙◌}
use Rattle.std.specs.List.{flat_map}
use Rattle.tie_grammar.specs.declared.tree.Decl.{Decl}
use Rattle.tie_grammar.specs.declared.tree.Tree.{Tree}
use Rattle.tie_rules.specs.Least.{earlier, least, behind}
use Rattle.tie_rules.specs.NameSets.{at_again, at_lists, slots_of, given_slot, slots_again, given_again, lone_at}
use Rattle.tie_rules.proofs.SlotLists.{slot_parts}
use Rattle.tie_rules.proofs.slots.slot_list.Goals as goal

pub returns : goal.returns
returns c =
    let t = c.args.tree.now in
    let slots = λ (decls : List Decl). least (behind (at_lists slots_of slots_again) decls) in
    let given = λ (decls : List Decl). least (behind (at_again given_slot given_again) decls) in
    let decls = c.as_slice-decls.result.now in
    c.earlier-2.ensures
    ∙ ap (λ (o : Option ℕ). earlier o c.earlier.result) c.in_ok-slots.ensures
    ∙ ap (earlier (slots decls))
    (c.earlier.ensures ∙ ap (λ (o : Option ℕ). earlier o c.in_ok-given.given) (c.least_in-lone.ensures ∙ ap (λ (u : Tree). least (flat_map (lone_at u) decls)) c.in_ok-names.ensures)
    ∙ ap (earlier (least (flat_map (lone_at t) decls))) c.in_ok-given.ensures)
    ∙ ap (λ (ds : List Decl). earlier (slots ds) (earlier (least (flat_map (lone_at t) ds)) (given ds))) c.as_slice-decls.ensures
    ∙ slot_parts t
