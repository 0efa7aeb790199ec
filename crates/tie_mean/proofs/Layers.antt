-- What each form means, from its parts.
use Rattle.std.proofs.Common.{◌≡◌, ℕ, List, map, rules}
use Rattle.tie_grammar.specs.declared.symbol.Leaf.{Leaf}
use Rattle.tie_grammar.specs.declared.symbol.TieWord.{TieWord}
use Rattle.tie_grammar.specs.declared.tree.Literal.{Literal}
use Rattle.tie_grammar.specs.declared.tree.UnaryOp.{UnaryOp}
use Rattle.tie_grammar.specs.declared.tree.Operator.{Operator}
use Rattle.tie_grammar.specs.declared.tree.Expr.{Expr}
use Rattle.tie_grammar.specs.declared.tree.Expr.TheVariants as tree
use Rattle.tie_grammar.specs.declared.tree.Expr.TheOpen.{Expr-F}
use Rattle.tie_grammar.specs.declared.tree.Expr.TheFolds.{the_lemmas}
use Rattle.tie_mean.specs.Scope.{Widths}
use Rattle.tie_mean.specs.Values.{meaning, meaning_step}

pub literal_is : (w : Widths) (x : Literal) → meaning w (tree.Literal x) ≡ meaning_step w (Expr-F.Literal x)
literal_is w x = search (rules, the_lemmas)

pub name_is : (w : Widths) (n : Leaf) → meaning w (tree.Name n) ≡ meaning_step w (Expr-F.Name n)
name_is w n = search (rules, the_lemmas)

pub select_is : (w : Widths) (n h l : Leaf) → meaning w (tree.Select n h l) ≡ meaning_step w (Expr-F.Select n h l)
select_is w n h l = search (rules, the_lemmas)

pub index_is : (w : Widths) (n : Leaf) (x : Expr) → meaning w (tree.Index n x) ≡ meaning_step w (Expr-F.Index n (meaning w x))
index_is w n x = search (rules, the_lemmas)

pub call_is : (w : Widths) (n : Leaf) (p : ℕ) (xs : List Expr) → meaning w (tree.Call n p xs) ≡ meaning_step w (Expr-F.Call n p (map (meaning w) xs))
call_is w n p xs = search (rules, the_lemmas)

pub tie_is : (w : Widths) (o : TieWord) (p : ℕ) (xs : List Expr) → meaning w (tree.Tie o p xs) ≡ meaning_step w (Expr-F.Tie o p (map (meaning w) xs))
tie_is w o p xs = search (rules, the_lemmas)

pub paren_is : (w : Widths) (p : ℕ) (x : Expr) → meaning w (tree.Paren p x) ≡ meaning_step w (Expr-F.Paren p (meaning w x))
paren_is w p x = search (rules, the_lemmas)

pub concat_is : (w : Widths) (p : ℕ) (xs : List Expr) → meaning w (tree.Concat p xs) ≡ meaning_step w (Expr-F.Concat p (map (meaning w) xs))
concat_is w p xs = search (rules, the_lemmas)

pub repeat_is : (w : Widths) (p : ℕ) (n : Leaf) (q : ℕ) (x : Expr) → meaning w (tree.Repeat p n q x) ≡ meaning_step w (Expr-F.Repeat p n q (meaning w x))
repeat_is w p n q x = search (rules, the_lemmas)

pub unary_is : (w : Widths) (o : UnaryOp) (p : ℕ) (x : Expr) → meaning w (tree.Unary o p x) ≡ meaning_step w (Expr-F.Unary o p (meaning w x))
unary_is w o p x = search (rules, the_lemmas)

pub binary_is : (w : Widths) (o : Operator) (a b : Expr) → meaning w (tree.Binary o a b) ≡ meaning_step w (Expr-F.Binary o (meaning w a) (meaning w b))
binary_is w o a b = search (rules, the_lemmas)

pub conditional_is : (w : Widths) (c a b : Expr) → meaning w (tree.Conditional c a b) ≡ meaning_step w (Expr-F.Conditional (meaning w c) (meaning w a) (meaning w b))
conditional_is w c a b = search (rules, the_lemmas)
