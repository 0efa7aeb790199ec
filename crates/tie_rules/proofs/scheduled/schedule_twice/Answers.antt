use Rattle.std.proofs.Common.{ℕ, List, Option, ap, ◌∙◌}
use Rattle.std.specs.List.{flat_map}
use Rattle.tie_grammar.specs.declared.tree.Decl.{Decl}
use Rattle.tie_rules.specs.Least.{earlier, least, behind}
use Rattle.tie_rules.specs.NameSets.{at_lists, scheduled_leaves, scheduled_here, operands_twice}
use Rattle.tie_rules.proofs.ScheduleLists.{schedule_parts}
use Rattle.tie_rules.proofs.scheduled.schedule_twice.Goals as goal

pub returns : goal.returns
returns c =
    let operations = λ (decls : List Decl). least (behind (at_lists scheduled_leaves scheduled_here) decls) in
    c.earlier.ensures
    ∙ ap (λ (o : Option ℕ). earlier o c.in_ok-operands.operands) c.in_ok-operations.ensures
    ∙ ap (earlier (operations c.as_slice-decls.result.now)) c.in_ok-operands.ensures
    ∙ ap (λ (ds : List Decl). earlier (operations ds) (least (flat_map operands_twice ds))) c.as_slice-decls.ensures
    ∙ schedule_parts c.args.tree.now
