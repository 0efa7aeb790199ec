-- The places of the first symbols of expressions.
use Rattle.std.proofs.Common.{◌≡◌, ℕ, List, [], ◌∷◌, ◌++◌, Some, refl, ap, ◌∙◌}
use Rattle.tie_grammar.specs.declared.symbol.Leaf.{Leaf}
use Rattle.tie_grammar.specs.declared.symbol.TieWord.{TieWord}
use Rattle.tie_grammar.specs.declared.symbol.Symbol.{Symbol}
use Rattle.tie_grammar.specs.declared.tree.Literal.TheVariants as l
use Rattle.tie_grammar.specs.declared.tree.UnaryOp.{UnaryOp}
use Rattle.tie_grammar.specs.declared.tree.Operator.{Operator}
use Rattle.tie_grammar.specs.declared.tree.Expr.{Expr}
use Rattle.tie_grammar.specs.declared.tree.Expr.TheVariants as e
use Rattle.tie_grammar.specs.Spelling.{expr, begins_at}
use Rattle.tie_grammar.proofs.Shapes.{expr-Index, expr-Call, expr-Tie, expr-Paren, expr-Concat, expr-Repeat, expr-Unary, expr-Binary, expr-Conditional}

begins_front : (xs ys : List Symbol) (p : ℕ) → begins_at xs ≡ Some p → begins_at (xs ++ ys) ≡ Some p
begins_front [] ys p h = absurd cc
begins_front (x ∷ xs) ys p h = h

pub begins_number : (n : Leaf) → begins_at (expr (e.Literal (l.Number n))) ≡ Some n.place
begins_number n = refl

pub begins_sized : (n : Leaf) → begins_at (expr (e.Literal (l.Sized n))) ≡ Some n.place
begins_sized n = refl

pub begins_index : (n : Leaf) (x : Expr) → begins_at (expr (e.Index n x)) ≡ Some n.place
begins_index n x = ap begins_at (expr-Index n x)

pub begins_call : (n : Leaf) (p : ℕ) (xs : List Expr) → begins_at (expr (e.Call n p xs)) ≡ Some n.place
begins_call n p xs = ap begins_at (expr-Call n p xs)

pub begins_tie : (w : TieWord) (p : ℕ) (xs : List Expr) → begins_at (expr (e.Tie w p xs)) ≡ Some w.place
begins_tie w p xs = ap begins_at (expr-Tie w p xs)

pub begins_paren : (p : ℕ) (x : Expr) → begins_at (expr (e.Paren p x)) ≡ Some p
begins_paren p x = ap begins_at (expr-Paren p x)

pub begins_concat : (p : ℕ) (xs : List Expr) → begins_at (expr (e.Concat p xs)) ≡ Some p
begins_concat p xs = ap begins_at (expr-Concat p xs)

pub begins_repeat : (p : ℕ) (n : Leaf) (q : ℕ) (x : Expr) → begins_at (expr (e.Repeat p n q x)) ≡ Some p
begins_repeat p n q x = ap begins_at (expr-Repeat p n q x)

pub begins_unary : (o : UnaryOp) (p : ℕ) (x : Expr) → begins_at (expr (e.Unary o p x)) ≡ Some p
begins_unary o p x = ap begins_at (expr-Unary o p x)

pub begins_binary : (o : Operator) (a b : Expr) (p : ℕ) → begins_at (expr a) ≡ Some p → begins_at (expr (e.Binary o a b)) ≡ Some p
begins_binary o a b p h = ap begins_at (expr-Binary o a b) ∙ begins_front (expr a) _ p h

pub begins_conditional : (c a b : Expr) (p : ℕ) → begins_at (expr c) ≡ Some p → begins_at (expr (e.Conditional c a b)) ≡ Some p
begins_conditional c a b p h = ap begins_at (expr-Conditional c a b) ∙ begins_front (expr c) _ p h
