use Rattle.std.proofs.Common.{◌≡◌, Bool, ◌&&◌, take}
use Rattle.std.specs.List.{list_any}
use Rattle.tie_grammar.specs.declared.tree.Decl.{Decl}
use Rattle.tie_mean.specs.Kept.{met}
use Rattle.tie_rules.specs.NameSets.{is_listed_by}
use Rattle.tie_rules.proofs.unknown.listed_among.Given as goal

abbrev pub invariant-loop-decl : goal.invariant-loop-decl
invariant-loop-decl l =
    (test : Decl → Bool) → list_any (λ decl. test decl.now) l.found.items ≡ list_any (λ decl. is_listed_by (met l.names) decl && test decl) (take l.decl-index l.decls)
