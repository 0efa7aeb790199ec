use Rattle.std.proofs.Common.{◌≡◌, ℕ, Bool, true, [], ◌∷◌, List, None, map, length, nat_le, refl, sym, subst, ap, ◌∙◌, arith}
use Rattle.std.specs.Borrow.{Bor}
use Rattle.std.specs.List.{list_all}
use Rattle.std.specs.Option.{is_some}
use Rattle.std.proofs.lemmas.Bool.{and_from, le-leb}
use Rattle.tie_mean.specs.Names.{width_in, function_names, parameter_names}
use Rattle.tie_mean.specs.Setters.{setter, leaf_names}
use Rattle.tie_translate.specs.Bounds.{node_limit}
use Rattle.tie_grammar.specs.declared.symbol.Leaf.{Leaf}
use Rattle.tie_grammar.specs.declared.tree.Item.{Item}
use Rattle.tie_grammar.specs.declared.tree.Parameter.{Parameter}
use Rattle.tie_results.specs.Sound.{is_set, is_sound_item}
use Rattle.tie_results.specs.Texts.{shown}
use Rattle.tie_results.specs.Bodies.{Body, widths_of, last_count, AreResultsOf}
use Rattle.tie_results.specs.Callees.{body_at}
use Rattle.tie_results.specs.Translated.{function_body}
use Rattle.tie_results.proofs.Outcomes.{if_ok}
use Rattle.tie_results.proofs.Sounds.{names_are, all_set, body_is}
use Rattle.tie_results.proofs.callees.translated.Goals as goal

pub results_at-requires-clause-sets : goal.results_at-requires-clause-sets
results_at-requires-clause-sets c =
    let whole = body_is c.args.tree.now c.args.declarations c.args.declarations c.args.text.now c.in_ok-widths.widths c.deref-2.result.now c.as_slice-2.result.now c.args.function.now.items (width_in (function_names c.args.function.now))
    (parameter_names c.args.function.now) refl c.requires.text
    (names_are c.in_ok-widths.widths c.deref.result.now (function_names c.args.function.now) c.in_ok-widths.ensures (ap (map shown) c.deref.ensures.value ∙ c.in_ok-declared.ensures) c.requires.function.body.widths)
    (ap leaf_names c.deref-2.ensures.value ∙ c.in_ok-inputs.ensures ∙ ap (λ (ps : List Parameter). map (λ x. x.name.bytes) ps) c.as_slice.ensures) c.as_slice-2.ensures in
    subst (λ (b : Body). list_all (is_sound_item (widths_of b)) b.items ≡ true) (sym whole) c.requires.function.body.sets

pub results_at-requires-clause-set : goal.results_at-requires-clause-set
results_at-requires-clause-set c =
    subst (λ (items : List Item). list_all (λ name. is_some (setter items (length items) name)) (c.args.function.now.name.bytes ∷ []) ≡ true) (sym c.as_slice-2.ensures)
    (all_set c.args.function.now.items (c.args.function.now.name.bytes ∷ []) (and_from (is_set c.args.function.now.items c.args.function.now.name.bytes) true c.requires.function.assigned refl))

pub results_at-requires-clause-small : goal.results_at-requires-clause-small
results_at-requires-clause-small c =
    let whole = body_is c.args.tree.now c.args.declarations c.args.declarations c.args.text.now c.in_ok-widths.widths c.deref-2.result.now c.as_slice-2.result.now c.args.function.now.items (width_in (function_names c.args.function.now))
    (parameter_names c.args.function.now) refl c.requires.text
    (names_are c.in_ok-widths.widths c.deref.result.now (function_names c.args.function.now) c.in_ok-widths.ensures (ap (map shown) c.deref.ensures.value ∙ c.in_ok-declared.ensures) c.requires.function.body.widths)
    (ap leaf_names c.deref-2.ensures.value ∙ c.in_ok-inputs.ensures ∙ ap (λ (ps : List Parameter). map (λ x. x.name.bytes) ps) c.as_slice.ensures) c.as_slice-2.ensures in
    let few = c.requires.few in
    let nodes : ℕ = last_count (function_body c.args.tree.now c.args.function.now c.args.declarations) c.args.function.now.name.bytes None in
    subst (λ (b : Body). list_all (λ name. nat_le (last_count b name None) node_limit) (c.args.function.now.name.bytes ∷ []) ≡ true) (sym whole)
    (and_from (nat_le nodes node_limit) true (le-leb nodes node_limit (omega (arith, few))) refl)

pub returns : goal.returns
returns c =
    let whole = body_is c.args.tree.now c.args.declarations c.args.declarations c.args.text.now c.in_ok-widths.widths c.deref-2.result.now c.as_slice-2.result.now c.args.function.now.items (width_in (function_names c.args.function.now))
    (parameter_names c.args.function.now) refl c.requires.text
    (names_are c.in_ok-widths.widths c.deref.result.now (function_names c.args.function.now) c.in_ok-widths.ensures (ap (map shown) c.deref.ensures.value ∙ c.in_ok-declared.ensures) c.requires.function.body.widths)
    (ap leaf_names c.deref-2.ensures.value ∙ c.in_ok-inputs.ensures ∙ ap (λ (ps : List Parameter). map (λ x. x.name.bytes) ps) c.as_slice.ensures) c.as_slice-2.ensures in
    if_ok c.results_at.result
    (λ es. AreResultsOf (body_at c.args.tree.now c.args.declarations c.args.text.now c.in_ok-widths.widths c.deref-2.result.now c.as_slice-2.result.now) (c.args.function.now.name.bytes ∷ []) es.items)
    (λ es. AreResultsOf (function_body c.args.tree.now c.args.function.now c.args.declarations) (c.args.function.now.name.bytes ∷ []) es.items)
    (λ es h. subst (λ (b : Body). AreResultsOf b (c.args.function.now.name.bytes ∷ []) es.items) whole h)
    c.results_at.ensures
