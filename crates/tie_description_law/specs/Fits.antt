-- Results that fit the operations of a text.
use Rattle.std.specs.Prelude.{◌≡◌, List, [], ◌∷◌, map, All}
use Rattle.tie_expr.specs.declared.node.Node.{Node}
use Rattle.tie_expr.specs.Tree.{meaning, inputs}
use Rattle.tie_expr.specs.Substitute.{IsOver}
use Rattle.tie_mean.specs.Names.{width_in, operation_names, written, read}
use Rattle.tie_grammar.specs.declared.tree.Operation.{Operation}
use Rattle.tie_grammar.specs.declared.tree.Tree.{Tree}
use Rattle.tie_describe.specs.Operations.{operations}

-- one result for each written operand, of its width, over the read operands at theirs
pub record FitsOperation (t : Tree) (o : Operation) (results : List Node) : Type 0 where
  pub widths : map (λ e. (meaning e).width) results ≡ map (width_in (operation_names t o)) (written o)
  pub over : All (λ e. IsOver (map (width_in (operation_names t o)) (read o)) (inputs e)) results

-- of each operation
abbrev pub FitOperations : Tree → List Operation → List (List Node) → Type 0
FitOperations t [] [] = Unit {0}
FitOperations t (o ∷ os) (r ∷ rs) = FitsOperation t o r × FitOperations t os rs
FitOperations t _ _ = ⊥

-- of all operations of a text
abbrev pub ResultsFit : Tree → List (List Node) → Type 0
ResultsFit t results = FitOperations t (operations t) results
