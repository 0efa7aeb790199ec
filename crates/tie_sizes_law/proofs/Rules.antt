-- The rules of the whole book that the sizes of a text rest on.
use Rattle.tie_grammar.specs.declared.tree.Tree.{Tree}
use Rattle.tie_rules.specs.Least.{NoneBroken}
use Rattle.tie_rules.specs.RuleBook as book
use Rattle.tie_sizes_law.proofs.Unbroken.{Unbroken}

-- the rules stand in their order: 1, 2, 3 to 14, 15 to 25, 26 to 30, 31
pub unbroken : (t : Tree) → NoneBroken (book.rules t) → Unbroken t
unbroken t h =
    let from_three = h.1.1 in
    let from_six = from_three.1.1.1 in
    let from_nine = from_six.1.1.1 in
    let from_fifteen = from_nine.1.1.1.1.1.1 in
    let from_nineteen = from_fifteen.1.1.1.1 in
    let from_twenty_two = from_nineteen.1.1.1 in
    let from_twenty_six = from_twenty_two.1.1.1.1 in
    record {
      names = h.0;
      many = from_three.1.1.0;
      widths = from_six.0;
      depths = from_six.1.0;
      literals = from_six.1.1.0;
      entries = from_nine.0;
      locals = from_fifteen.0;
      known = from_fifteen.1.0;
      counts = from_nineteen.0;
      assigned = from_twenty_two.0;
      selects = from_twenty_two.1.0;
      arguments = from_twenty_two.1.1.0;
      sizes = from_twenty_two.1.1.1.0;
      large = from_twenty_six.1.1.1.1.1.0;
    }
