use Rattle.std.proofs.Common.{◌≡◌, ℕ, Bool, true, List, None, map, length, nat_le, refl, sym, subst, ap, ◌∙◌, arith}
use Rattle.std.specs.Borrow.{Bor}
use Rattle.std.specs.List.{list_all}
use Rattle.std.specs.Option.{is_some}
use Rattle.std.proofs.lemmas.List.{length-map}
use Rattle.tie_mean.specs.Names.{width_in, operation_names, read, written, is_read}
use Rattle.tie_mean.specs.Setters.{setter, leaf_names}
use Rattle.tie_translate.specs.Bounds.{node_limit}
use Rattle.tie_grammar.specs.declared.symbol.Leaf.{Leaf}
use Rattle.tie_grammar.specs.declared.tree.Item.{Item}
use Rattle.tie_results.specs.Sound.{is_sound_item}
use Rattle.tie_results.specs.Results.{AreResults}
use Rattle.tie_results.specs.Texts.{shown}
use Rattle.tie_results.specs.Bodies.{Body, widths_of, last_count, AreResultsOf}
use Rattle.tie_results.specs.Callees.{body_at, AreCallees}
use Rattle.tie_results.specs.Translated.{operation_body}
use Rattle.tie_results.specs.declared.frame.Callee.{Callee}
use Rattle.tie_results.proofs.Outcomes.{if_ok}
use Rattle.tie_results.proofs.Sounds.{names_are, all_set, body_is, operands_few}
use Rattle.tie_results.proofs.Concluded.{results_are, few_results}
use Rattle.tie_results.proofs.operation.results.Goals as goal

pub results_at-requires-clause-few : goal.results_at-requires-clause-few
results_at-requires-clause-few c =
    let few = operands_few is_read c.args.operation.now in
    let bound = c.requires.operation.few in
    let names : leaf_names c.deref-3.result.now ≡ read c.args.operation.now = ap leaf_names c.deref-3.ensures.value ∙ c.in_ok-inputs.ensures in
    let long : length c.deref-3.result.now ≡ length (read c.args.operation.now) =
    sym (length-map c.deref-3.result.now (λ (leaf : Bor Leaf). leaf.now.bytes)) ∙ ap (λ (ns : List (List ℕ)). length ns) names in
    omega (arith, few, bound, long)

pub results_at-requires-clause-callees : goal.results_at-requires-clause-callees
results_at-requires-clause-callees c =
    let whole = body_is c.args.tree.now c.len.result (length c.args.tree.now.declarations) c.args.functions.now.text c.in_ok-widths.widths c.deref-3.result.now c.as_slice.result.now c.args.operation.now.items
    (width_in (operation_names c.args.tree.now c.args.operation.now)) (read c.args.operation.now) c.len.ensures c.requires.functions.text
    (names_are c.in_ok-widths.widths c.deref.result.now (operation_names c.args.tree.now c.args.operation.now) c.in_ok-widths.ensures (ap (map shown) c.deref.ensures.value ∙ c.in_ok-declared.ensures) c.requires.operation.body.widths)
    (ap leaf_names c.deref-3.ensures.value ∙ c.in_ok-inputs.ensures) c.as_slice.ensures in
    subst (λ (cs : List Callee). AreCallees (body_at c.args.tree.now c.len.result c.args.functions.now.text c.in_ok-widths.widths c.deref-3.result.now c.as_slice.result.now).calls cs) (sym c.deref-2.ensures.value)
    (subst (λ (b : Body). AreCallees b.calls c.args.functions.now.callees.items) (sym whole) c.requires.functions.callees)

pub results_at-requires-clause-sets : goal.results_at-requires-clause-sets
results_at-requires-clause-sets c =
    let whole = body_is c.args.tree.now c.len.result (length c.args.tree.now.declarations) c.args.functions.now.text c.in_ok-widths.widths c.deref-3.result.now c.as_slice.result.now c.args.operation.now.items
    (width_in (operation_names c.args.tree.now c.args.operation.now)) (read c.args.operation.now) c.len.ensures c.requires.functions.text
    (names_are c.in_ok-widths.widths c.deref.result.now (operation_names c.args.tree.now c.args.operation.now) c.in_ok-widths.ensures (ap (map shown) c.deref.ensures.value ∙ c.in_ok-declared.ensures) c.requires.operation.body.widths)
    (ap leaf_names c.deref-3.ensures.value ∙ c.in_ok-inputs.ensures) c.as_slice.ensures in
    subst (λ (b : Body). list_all (is_sound_item (widths_of b)) b.items ≡ true) (sym whole) c.requires.operation.body.sets

pub results_at-requires-clause-set : goal.results_at-requires-clause-set
results_at-requires-clause-set c =
    let outputs : leaf_names c.deref-4.result.now ≡ written c.args.operation.now = ap leaf_names c.deref-4.ensures.value ∙ c.in_ok-outputs.ensures in
    subst (λ (ns : List (List ℕ)). list_all (λ name. is_some (setter c.as_slice.result.now (length c.as_slice.result.now) name)) ns ≡ true) (sym outputs)
    (subst (λ (items : List Item). list_all (λ name. is_some (setter items (length items) name)) (written c.args.operation.now) ≡ true) (sym c.as_slice.ensures)
    (all_set c.args.operation.now.items (written c.args.operation.now) c.requires.operation.assigned))

pub results_at-requires-clause-small : goal.results_at-requires-clause-small
results_at-requires-clause-small c =
    let whole = body_is c.args.tree.now c.len.result (length c.args.tree.now.declarations) c.args.functions.now.text c.in_ok-widths.widths c.deref-3.result.now c.as_slice.result.now c.args.operation.now.items
    (width_in (operation_names c.args.tree.now c.args.operation.now)) (read c.args.operation.now) c.len.ensures c.requires.functions.text
    (names_are c.in_ok-widths.widths c.deref.result.now (operation_names c.args.tree.now c.args.operation.now) c.in_ok-widths.ensures (ap (map shown) c.deref.ensures.value ∙ c.in_ok-declared.ensures) c.requires.operation.body.widths)
    (ap leaf_names c.deref-3.ensures.value ∙ c.in_ok-inputs.ensures) c.as_slice.ensures in
    let outputs : leaf_names c.deref-4.result.now ≡ written c.args.operation.now = ap leaf_names c.deref-4.ensures.value ∙ c.in_ok-outputs.ensures in
    subst (λ (ns : List (List ℕ)). list_all (λ name. nat_le (last_count (body_at c.args.tree.now c.len.result c.args.functions.now.text c.in_ok-widths.widths c.deref-3.result.now c.as_slice.result.now) name None) node_limit) ns ≡ true) (sym outputs)
    (subst (λ (b : Body). list_all (λ name. nat_le (last_count b name None) node_limit) (written c.args.operation.now) ≡ true) (sym whole) (few_results c.args.tree.now c.args.operation.now c.requires.operation.small))

pub returns : goal.returns
returns c =
    let whole = body_is c.args.tree.now c.len.result (length c.args.tree.now.declarations) c.args.functions.now.text c.in_ok-widths.widths c.deref-3.result.now c.as_slice.result.now c.args.operation.now.items
    (width_in (operation_names c.args.tree.now c.args.operation.now)) (read c.args.operation.now) c.len.ensures c.requires.functions.text
    (names_are c.in_ok-widths.widths c.deref.result.now (operation_names c.args.tree.now c.args.operation.now) c.in_ok-widths.ensures (ap (map shown) c.deref.ensures.value ∙ c.in_ok-declared.ensures) c.requires.operation.body.widths)
    (ap leaf_names c.deref-3.ensures.value ∙ c.in_ok-inputs.ensures) c.as_slice.ensures in
    let outputs : leaf_names c.deref-4.result.now ≡ written c.args.operation.now = ap leaf_names c.deref-4.ensures.value ∙ c.in_ok-outputs.ensures in
    if_ok c.results_at.result
    (λ es. AreResultsOf (body_at c.args.tree.now c.len.result c.args.functions.now.text c.in_ok-widths.widths c.deref-3.result.now c.as_slice.result.now) (leaf_names c.deref-4.result.now) es.items)
    (λ es. AreResults c.args.tree.now c.args.operation.now es.items)
    (λ es h. results_are c.args.tree.now c.args.operation.now es.items
    (subst (λ (ns : List (List ℕ)). AreResultsOf (operation_body c.args.tree.now c.args.operation.now) ns es.items) outputs
    (subst (λ (b : Body). AreResultsOf b (leaf_names c.deref-4.result.now) es.items) whole h)))
    c.results_at.ensures
