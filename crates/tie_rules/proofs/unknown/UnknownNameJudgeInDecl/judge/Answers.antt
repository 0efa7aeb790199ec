use Rattle.std.proofs.Common.{ℕ, ◌++◌, Option, ap, ◌∙◌}
use Rattle.std.specs.List.{flat_map}
use Rattle.tie_grammar.specs.declared.tree.Decl.{Decl}
use Rattle.tie_rules.specs.Least.{earlier, least}
use Rattle.tie_rules.specs.Names.{arguments, links, body}
use Rattle.tie_rules.specs.Declarations.{in_body}
use Rattle.tie_rules.specs.Bodies.{unknown_kind, unknown_link, unknown_target, unknown_here, unknown_in_schedule}
use Rattle.tie_rules.specs.NameSets.{unknown_in_body}
use Rattle.tie_rules.proofs.Places.{least_joined}
use Rattle.tie_rules.proofs.unknown.UnknownNameJudgeInDecl.judge.Goals as goal

pub returns : goal.returns
returns c =
    let t = c.args.self.now.tree.now in
    let decl = c.args.decl.now in
    let uses = unknown_in_schedule t decl in
    c.earlier.ensures ∙ ap (λ (o : Option ℕ). earlier o c.in_ok-uses.uses) c.unknown_in_body.ensures
    ∙ ap (λ (d : Decl). earlier (least (unknown_in_body t d)) c.in_ok-uses.uses) c.in_ok-names.ensures
    ∙ ap (earlier (least (unknown_in_body t decl))) c.in_ok-uses.ensures
    ∙ least_joined (flat_map (unknown_kind t) (arguments decl) ++ flat_map (unknown_link t) (links decl))
    (flat_map (unknown_target decl) (body decl) ++ in_body (unknown_here t decl) decl) uses
