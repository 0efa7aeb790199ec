-- Texts that are accepted, and what they describe.
use Rattle.std.specs.Prelude.{◌≡◌, ℕ, List, [], ◌∷◌}
use Rattle.tie_expr.specs.declared.node.Node.{Node}
use Rattle.tie_grammar.specs.declared.tree.Operation.{Operation}
use Rattle.tie_grammar.specs.declared.tree.Tree.{Tree}
use Rattle.tie_desc.specs.Description.{Description}
use Rattle.tie_rules.specs.Least.{NoneBroken}
use Rattle.tie_rules.specs.RuleBook as book
use Rattle.tie_results.specs.Results.{AreResults}
use Rattle.tie_description_law.specs.tie_describe.Operations.{operations}
use Rattle.tie_description_law.specs.tie_describe.Described.{described}

-- each operation has its results: one expression per written operand, which means what the operation writes
abbrev pub AllResults : Tree → List Operation → List (List Node) → Type 0
AllResults t [] [] = Unit {0}
AllResults t (o ∷ os) (r ∷ rs) = AreResults t o r × AllResults t os rs
AllResults t _ _ = ⊥

-- the description has what the text declares, in its order, and its operations write what those of the text write
pub record Describes (t : Tree) (d : Description) : Type 0 where
  pub results : List (List Node)
  pub means : AllResults t (operations t) results
  pub declared : d ≡ described t results

-- no rule is broken anywhere, and this is a description of the text
pub record Accepted (t : Tree) (d : Description) : Type 0 where
  pub holds : NoneBroken (book.rules t)
  pub describes : Describes t d
