use Rattle.std.proofs.Common.{ap, ◌∙◌}
use Rattle.tie_grammar.specs.declared.tree.Decl.{Decl}
use Rattle.tie_rules.specs.Least.{behind}
use Rattle.tie_rules.specs.Bodies.{used_before_item, used_before_at}
use Rattle.tie_rules.specs.NameSets.{at_met, set_name, early_item, waits}
use Rattle.tie_rules.proofs.NamedItems.{same_place, used_early}
use Rattle.tie_rules.proofs.assigned.UsedBeforeJudgeInDecl.judge.Goals as goal

pub returns : goal.returns
returns c =
    let decl = c.args.decl.now in
    let items = c.body.result.now in
    let names = c.in_ok-names.names in
    same_place c.least_met.result (behind (at_met set_name (early_item (waits names.decl.now))) items) (used_before_at decl)
    (ap (λ (d : Decl). behind (at_met set_name (early_item (waits d))) items) c.in_ok-names.ensures ∙ used_early decl items ∙ ap (behind (used_before_item decl)) c.body.ensures) c.least_met.ensures
