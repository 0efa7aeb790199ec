use Rattle.std.proofs.Common.{◌≡◌, ℕ, [], length, sym, ◌∙◌}
use Rattle.tie_expr.specs.Tree.{meaning, inputs, size}
use Rattle.tie_translate.specs.Translation.{name_typed}
use Rattle.tie_translate.specs.Bounds.{IsNameBounded, name_room}
use Rattle.tie_results.specs.Bodies.{widths_of, env_behind, bounds_of}
use Rattle.tie_results.specs.Callees.{body_of}
use Rattle.tie_results.proofs.Outcomes.{if_ok, if_both}
use Rattle.tie_results.proofs.Placed.{made_stands, copy_bounded}
use Rattle.tie_results.proofs.frame.set_name.Goals as goal

pub returns-clause-means : goal.returns-clause-means
returns-clause-means c =
    let stands = made_stands (body_of c.args.place.now.frame.now) c.args.place.now.made.now (length c.args.place.now.made.now) c.args.at c.args.name.now.bytes c.in-Some.e.now
    c.requires.free c.requires.at c.requires.right.made (sym c.in-Some.ensures) in
    if_ok c.copy.result (λ e. meaning e ≡ meaning c.in-Some.e.now)
    (λ e. meaning e ≡ name_typed (widths_of (body_of c.args.place.now.frame.now)) (env_behind (body_of c.args.place.now.frame.now) (length c.args.place.now.made.now)) c.args.name.now.bytes)
    (λ e h. h ∙ stands.means)
    c.copy.ensures.means

pub returns-clause-bounded : goal.returns-clause-bounded
returns-clause-bounded c =
    let stands = made_stands (body_of c.args.place.now.frame.now) c.args.place.now.made.now (length c.args.place.now.made.now) c.args.at c.args.name.now.bytes c.in-Some.e.now
    c.requires.free c.requires.at c.requires.right.made (sym c.in-Some.ensures) in
    if_both c.copy.result (λ e. inputs e ≡ inputs c.in-Some.e.now) (λ e. size e ≡ size c.in-Some.e.now)
    (IsNameBounded (bounds_of (body_of c.args.place.now.frame.now) c.args.place.now.made.now (length c.args.place.now.made.now)) name_room c.args.name.now.bytes)
    (λ e h k. copy_bounded (bounds_of (body_of c.args.place.now.frame.now) c.args.place.now.made.now (length c.args.place.now.made.now)) c.args.name.now.bytes c.in-Some.e.now e stands.bounded h k)
    c.copy.ensures.inputs c.copy.ensures.size
