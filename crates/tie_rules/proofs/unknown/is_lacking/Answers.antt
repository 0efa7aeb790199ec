use Rattle.std.proofs.Common.{ap, not, ◌∙◌, List}
use Rattle.std.specs.Borrow.{Bor}
use Rattle.std.specs.List.{list_any}
use Rattle.tie_grammar.specs.declared.tree.Decl.{Decl}
use Rattle.tie_rules.specs.Names.{operand_is}
use Rattle.tie_rules.specs.Sorts.{goes}
use Rattle.tie_rules.proofs.NamedItems.{lacks_any}
use Rattle.tie_rules.proofs.unknown.is_lacking.Goals as goal

pub returns : goal.returns
returns c =
    let list = c.args.list.now in
    let way = goes c.args.way in
    let name = c.args.name.now.bytes in
    c.some.ensures ∙ ap (λ (decls : List (Bor Decl)). list_any (λ decl. not (operand_is way name decl.now)) decls) c.deref.ensures.value
    ∙ list.right (λ decl. not (operand_is way name decl)) ∙ lacks_any way list.operations.now name list.tree.now.declarations
