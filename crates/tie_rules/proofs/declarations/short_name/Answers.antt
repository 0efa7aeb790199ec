use Rattle.std.proofs.Common.{◌≡◌, ℕ, List, [], Option, ap, subst, ◌∙◌}
use Rattle.std.specs.Result.{IfOk}
use Rattle.tie_grammar.specs.declared.tree.Decl.{Decl}
use Rattle.tie_rules.specs.Declarations.{short_of, short_name_at}
use Rattle.tie_rules.specs.Least.{least, behind}
use Rattle.tie_rules.specs.NameSets.{at_again, short_here}
use Rattle.tie_rules.proofs.NameSets.{behind_same, short_again}
use Rattle.tie_rules.proofs.declarations.short_name.Goals as goal

pub returns : goal.returns
returns c =
    subst (λ (o : Option ℕ). IfOk c.least_again.result (λ p. p ≡ o))
    (ap (λ (xs : List Decl). least (behind (at_again short_of short_here) xs)) c.as_slice.ensures
    ∙ ap least (behind_same (at_again short_of short_here) short_name_at short_again [] c.args.tree.now.declarations))
    c.least_again.ensures
