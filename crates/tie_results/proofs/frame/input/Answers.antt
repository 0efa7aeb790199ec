use Rattle.std.proofs.Common.{◌≡◌, ℕ, [], ◌∷◌, length, arith}
use Rattle.std.proofs.lemmas.List.{length-map}
use Rattle.std.specs.Borrow.{Bor}
use Rattle.tie_grammar.specs.declared.symbol.Leaf.{Leaf}
use Rattle.tie_expr.specs.Meaning.{input_meaning}
use Rattle.tie_expr.specs.Size.{node_weight}
use Rattle.tie_expr.specs.Tree.{meaning, inputs, size}
use Rattle.tie_mean.specs.Setters.{leaf_names}
use Rattle.tie_translate.specs.Translation.{name_typed}
use Rattle.tie_translate.specs.Bounds.{IsNameBounded, name_room}
use Rattle.tie_results.specs.Bodies.{widths_of, env_behind, bounds_of}
use Rattle.tie_results.specs.Callees.{body_of}
use Rattle.tie_results.proofs.Outcomes.{if_ok, if_both}
use Rattle.tie_results.proofs.Inputs.{at_number}
use Rattle.tie_results.proofs.Placed.{input_means, input_bounded}
use Rattle.tie_results.proofs.frame.input.Goals as goal

pub overflow_cast-number : goal.overflow_cast-number
overflow_cast-number c =
    let within = (at_number (body_of c.args.place.now.frame.now).name (leaf_names c.args.place.now.frame.now.inputs.now) c.args.name.now.bytes c.args.number c.requires.number).within in
    let few = c.requires.right.ready.few in
    let many : length (leaf_names c.args.place.now.frame.now.inputs.now) ≡ length c.args.place.now.frame.now.inputs.now = length-map c.args.place.now.frame.now.inputs.now (λ (leaf : Bor Leaf). leaf.now.bytes) in
    omega (arith, within, few, many)

pub returns-clause-means : goal.returns-clause-means
returns-clause-means c =
    if_ok c.input.result (λ e. meaning e ≡ input_meaning c.args.number c.name_width-width.result)
    (λ e. meaning e ≡ name_typed (widths_of (body_of c.args.place.now.frame.now)) (env_behind (body_of c.args.place.now.frame.now) (length c.args.place.now.made.now)) c.args.name.now.bytes)
    (λ e h. input_means (body_of c.args.place.now.frame.now) (length c.args.place.now.made.now) c.args.name.now.bytes c.args.number c.name_width-width.result (meaning e) c.requires.number c.name_width-width.ensures h)
    c.input.ensures.means

pub returns-clause-bounded : goal.returns-clause-bounded
returns-clause-bounded c =
    if_both c.input.result (λ e. inputs e ≡ record { index = c.args.number; width = c.name_width-width.result } ∷ []) (λ e. size e ≡ node_weight)
    (IsNameBounded (bounds_of (body_of c.args.place.now.frame.now) c.args.place.now.made.now (length c.args.place.now.made.now)) name_room c.args.name.now.bytes)
    (λ e h k. input_bounded (body_of c.args.place.now.frame.now) c.args.place.now.made.now (length c.args.place.now.made.now) c.args.name.now.bytes c.args.number c.name_width-width.result e
    c.requires.number c.name_width-width.ensures h k)
    c.input.ensures.inputs c.input.ensures.size
