-- Each form, opened.
use Rattle.std.proofs.Common.{◌≡◌, ℕ, List}
use denote.Hole.Carrier.{roll}
use Rattle.tie_grammar.specs.declared.symbol.Leaf.{Leaf}
use Rattle.tie_grammar.specs.declared.symbol.TieWord.{TieWord}
use Rattle.tie_grammar.specs.declared.tree.Literal.{Literal}
use Rattle.tie_grammar.specs.declared.tree.UnaryOp.{UnaryOp}
use Rattle.tie_grammar.specs.declared.tree.Operator.{Operator}
use Rattle.tie_grammar.specs.declared.tree.Expr.{Expr, out-Expr, roll-Expr}
use Rattle.tie_grammar.specs.declared.tree.Expr.TheVariants as e
use Rattle.tie_grammar.specs.declared.tree.Expr.TheOpen.{Expr-F}
use Rattle.tie_grammar.specs.declared.tree.Expr.TheViews.{out-roll-Expr}

pub out-Literal : (x : Literal) → out-Expr (e.Literal x) ≡ Expr-F.Literal x
unfolding roll-Expr roll
out-Literal x = out-roll-Expr (Expr-F.Literal x)

pub out-Name : (n : Leaf) → out-Expr (e.Name n) ≡ Expr-F.Name n
unfolding roll-Expr roll
out-Name n = out-roll-Expr (Expr-F.Name n)

pub out-Select : (n high low : Leaf) → out-Expr (e.Select n high low) ≡ Expr-F.Select n high low
unfolding roll-Expr roll
out-Select n high low = out-roll-Expr (Expr-F.Select n high low)

pub out-Index : (n : Leaf) (x : Expr) → out-Expr (e.Index n x) ≡ Expr-F.Index n x
unfolding roll-Expr roll
out-Index n x = out-roll-Expr (Expr-F.Index n x)

pub out-Call : (n : Leaf) (p : ℕ) (xs : List Expr) → out-Expr (e.Call n p xs) ≡ Expr-F.Call n p xs
unfolding roll-Expr roll
out-Call n p xs = out-roll-Expr (Expr-F.Call n p xs)

pub out-Tie : (w : TieWord) (p : ℕ) (xs : List Expr) → out-Expr (e.Tie w p xs) ≡ Expr-F.Tie w p xs
unfolding roll-Expr roll
out-Tie w p xs = out-roll-Expr (Expr-F.Tie w p xs)

pub out-Paren : (p : ℕ) (x : Expr) → out-Expr (e.Paren p x) ≡ Expr-F.Paren p x
unfolding roll-Expr roll
out-Paren p x = out-roll-Expr (Expr-F.Paren p x)

pub out-Concat : (p : ℕ) (xs : List Expr) → out-Expr (e.Concat p xs) ≡ Expr-F.Concat p xs
unfolding roll-Expr roll
out-Concat p xs = out-roll-Expr (Expr-F.Concat p xs)

pub out-Repeat : (p : ℕ) (n : Leaf) (q : ℕ) (x : Expr) → out-Expr (e.Repeat p n q x) ≡ Expr-F.Repeat p n q x
unfolding roll-Expr roll
out-Repeat p n q x = out-roll-Expr (Expr-F.Repeat p n q x)

pub out-Unary : (o : UnaryOp) (p : ℕ) (x : Expr) → out-Expr (e.Unary o p x) ≡ Expr-F.Unary o p x
unfolding roll-Expr roll
out-Unary o p x = out-roll-Expr (Expr-F.Unary o p x)

pub out-Binary : (o : Operator) (a b : Expr) → out-Expr (e.Binary o a b) ≡ Expr-F.Binary o a b
unfolding roll-Expr roll
out-Binary o a b = out-roll-Expr (Expr-F.Binary o a b)

pub out-Conditional : (c a b : Expr) → out-Expr (e.Conditional c a b) ≡ Expr-F.Conditional c a b
unfolding roll-Expr roll
out-Conditional c a b = out-roll-Expr (Expr-F.Conditional c a b)
