use Rattle.std.proofs.Common.{◌≤◌, length, List, subst, sym}
use Rattle.tie_desc.specs.declared.declarations.Operand.{Operand}
use Rattle.xt_operate.proofs.BoundLemmas.{links_of-le}
use Rattle.xt_operate.proofs.bounds.few_links.Goals as goal

pub returns-clause-few : goal.returns-clause-few
returns-clause-few c =
    let P : List Operand → Type 0 = λ xs. length xs ≤ 8 in
    subst P (sym c.links_of.ensures) (links_of-le c.args.desc.now c.facts.ensures c.args.code)
