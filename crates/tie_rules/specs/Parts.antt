-- The parts of an expression.
use Rattle.std.specs.Prelude.{ℕ, List, [], ◌∷◌, ◌++◌}
use Rattle.std.specs.List.{flat_map}
use Rattle.tie_grammar.specs.declared.tree.Expr.{Expr, Literal as Lit, Name, Select, Index', Call', Tie', Paren', Concat', Repeat', Unary', Binary', Conditional', Row_of-Expr, more_of-Expr, end_of-Expr}

abbrev mutual
  -- all parts below an expression
  pub below : Expr → List Expr
  below (Lit x) = []
  below (Name n) = []
  below (Select n high low) = []
  below (Index' n _ (more_of-Expr x end_of-Expr)) = x ∷ below x
  below (Call' n p _ row) = row_parts row
  below (Tie' w p _ row) = row_parts row
  below (Paren' p _ (more_of-Expr x end_of-Expr)) = x ∷ below x
  below (Concat' p _ row) = row_parts row
  below (Repeat' p n q _ (more_of-Expr x end_of-Expr)) = x ∷ below x
  below (Unary' o p _ (more_of-Expr x end_of-Expr)) = x ∷ below x
  below (Binary' o _ (more_of-Expr a end_of-Expr) _ (more_of-Expr b end_of-Expr)) = (a ∷ below a) ++ (b ∷ below b)
  below (Conditional' _ (more_of-Expr c end_of-Expr) _ (more_of-Expr a end_of-Expr) _ (more_of-Expr b end_of-Expr)) = (c ∷ below c) ++ ((a ∷ below a) ++ (b ∷ below b))

  pub row_parts : {n : _} → Row_of-Expr n → List Expr
  row_parts end_of-Expr = []
  row_parts (more_of-Expr x row) = (x ∷ below x) ++ row_parts row

-- an expression and all parts of it
abbrev pub parts : Expr → List Expr
parts x = x ∷ below x

-- the places that are named at the parts of an expression
abbrev pub at_parts : (Expr → List ℕ) → Expr → List ℕ
at_parts here x = flat_map here (parts x)
