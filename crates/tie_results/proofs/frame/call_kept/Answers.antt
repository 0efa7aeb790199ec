use Rattle.std.proofs.Common.{◌≡◌, ℕ, length, map}
use Rattle.tie_expr.specs.Substitute.{substitute_meaning, substitute_inputs, substitute_size}
use Rattle.tie_expr.specs.Tree.{meaning, inputs, size}
use Rattle.tie_translate.specs.Translation.{call_typed}
use Rattle.tie_translate.specs.Bounds.{IsCallBounded, name_room}
use Rattle.tie_results.specs.Bodies.{widths_of, env_behind, bounds_of}
use Rattle.tie_results.specs.Callees.{body_of}
use Rattle.tie_results.proofs.Outcomes.{if_ok, if_both}
use Rattle.tie_results.proofs.Called.{arguments_over, call_small, call_means, call_bounded}
use Rattle.tie_results.proofs.frame.call_kept.Goals as goal

pub substitute-requires-clause-over : goal.substitute-requires-clause-over
substitute-requires-clause-over c = arguments_over c.args.name.now.bytes (body_of c.args.place.now.frame.now) c.args.body.now c.args.arguments.now c.requires.callee c.requires.widths

pub substitute-requires-clause-limit : goal.substitute-requires-clause-limit
substitute-requires-clause-limit c = call_small (body_of c.args.place.now.frame.now) c.args.name.now.bytes c.args.body.now c.args.arguments.now c.requires.callee c.requires.few

pub returns-clause-means : goal.returns-clause-means
returns-clause-means c =
    if_ok c.substitute.result (λ e. meaning e ≡ substitute_meaning (meaning c.args.body.now) (map meaning c.args.arguments.now))
    (λ e. meaning e ≡ call_typed (widths_of (body_of c.args.place.now.frame.now)) (env_behind (body_of c.args.place.now.frame.now) (length c.args.place.now.made.now)) c.args.name.now.bytes (map meaning c.args.arguments.now))
    (λ e h. call_means (body_of c.args.place.now.frame.now) (length c.args.place.now.made.now) c.args.name.now.bytes c.args.body.now c.args.arguments.now (meaning e) c.requires.callee c.requires.widths c.see_widths.ensures h)
    c.substitute.ensures.means

pub returns-clause-bounded : goal.returns-clause-bounded
returns-clause-bounded c =
    if_both c.substitute.result (λ e. inputs e ≡ substitute_inputs (inputs c.args.body.now) (map inputs c.args.arguments.now))
    (λ e. size e ≡ substitute_size (size c.args.body.now) (inputs c.args.body.now) (map size c.args.arguments.now))
    (IsCallBounded (bounds_of (body_of c.args.place.now.frame.now) c.args.place.now.made.now (length c.args.place.now.made.now)) name_room c.args.name.now.bytes c.args.arguments.now)
    (λ e h k. call_bounded (body_of c.args.place.now.frame.now) c.args.place.now.made.now (length c.args.place.now.made.now) c.args.name.now.bytes c.args.body.now e c.args.arguments.now c.requires.callee c.requires.over h k)
    c.substitute.ensures.inputs c.substitute.ensures.size
