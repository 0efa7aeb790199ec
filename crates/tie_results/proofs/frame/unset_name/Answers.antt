use Rattle.std.proofs.Common.{◌≡◌, ℕ, [], length, ap, ◌∙◌}
use Rattle.tie_expr.specs.Meaning.{constant_meaning}
use Rattle.tie_expr.specs.Size.{node_weight}
use Rattle.tie_expr.specs.Tree.{meaning, inputs, size}
use Rattle.tie_translate.specs.Translation.{name_typed}
use Rattle.tie_translate.specs.Bounds.{IsNameBounded, name_room}
use Rattle.tie_results.specs.Bodies.{widths_of, env_behind, bounds_of}
use Rattle.tie_results.specs.Callees.{body_of}
use Rattle.tie_results.proofs.Outcomes.{if_ok, if_both}
use Rattle.tie_results.proofs.Placed.{unset_means, unset_bounded}
use Rattle.tie_results.proofs.frame.unset_name.Goals as goal

pub returns-clause-means : goal.returns-clause-means
returns-clause-means c =
    if_ok c.constant.result (λ e. meaning e ≡ constant_meaning c.new.result)
    (λ e. meaning e ≡ name_typed (widths_of (body_of c.args.place.now.frame.now)) (env_behind (body_of c.args.place.now.frame.now) (length c.args.place.now.made.now)) c.args.name.now.bytes)
    (λ e h. unset_means (body_of c.args.place.now.frame.now) (length c.args.place.now.made.now) c.args.name.now.bytes c.name_width-width.result (meaning e) c.requires.free c.requires.at c.name_width-width.ensures
    (h ∙ ap constant_meaning c.new.ensures))
    c.constant.ensures.means

pub returns-clause-bounded : goal.returns-clause-bounded
returns-clause-bounded c =
    if_both c.constant.result (λ e. inputs e ≡ []) (λ e. size e ≡ node_weight)
    (IsNameBounded (bounds_of (body_of c.args.place.now.frame.now) c.args.place.now.made.now (length c.args.place.now.made.now)) name_room c.args.name.now.bytes)
    (λ e h k. unset_bounded (body_of c.args.place.now.frame.now) c.args.place.now.made.now (length c.args.place.now.made.now) c.args.name.now.bytes e c.requires.free c.requires.at h k)
    c.constant.ensures.inputs c.constant.ensures.size
