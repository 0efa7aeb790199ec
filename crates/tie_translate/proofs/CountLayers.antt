-- What each form counts, from its parts.
use Rattle.std.proofs.Common.{◌≡◌, ℕ, List, map, rules}
use Rattle.tie_grammar.specs.declared.symbol.Leaf.{Leaf}
use Rattle.tie_grammar.specs.declared.symbol.TieWord.{TieWord}
use Rattle.tie_grammar.specs.declared.tree.Literal.{Literal}
use Rattle.tie_grammar.specs.declared.tree.UnaryOp.{UnaryOp}
use Rattle.tie_grammar.specs.declared.tree.Operator.{Operator}
use Rattle.tie_grammar.specs.declared.tree.Expr.{Expr}
use Rattle.tie_grammar.specs.declared.tree.Expr.TheVariants as tree
use Rattle.tie_grammar.specs.declared.tree.Expr.TheOpen.{Expr-F}
use Rattle.tie_grammar.specs.declared.tree.Expr.TheFolds.{the_lemmas}
use Rattle.tie_mean.specs.Counts.{Counts, count, count_step}

pub count_literal : (c : Counts) (x : Literal) → count c (tree.Literal x) ≡ count_step c (Expr-F.Literal x)
count_literal c x = search (rules, the_lemmas)

pub count_name : (c : Counts) (n : Leaf) → count c (tree.Name n) ≡ count_step c (Expr-F.Name n)
count_name c n = search (rules, the_lemmas)

pub count_select : (c : Counts) (n h l : Leaf) → count c (tree.Select n h l) ≡ count_step c (Expr-F.Select n h l)
count_select c n h l = search (rules, the_lemmas)

pub count_index : (c : Counts) (n : Leaf) (x : Expr) → count c (tree.Index n x) ≡ count_step c (Expr-F.Index n (count c x))
count_index c n x = search (rules, the_lemmas)

pub count_call : (c : Counts) (n : Leaf) (p : ℕ) (xs : List Expr) → count c (tree.Call n p xs) ≡ count_step c (Expr-F.Call n p (map (count c) xs))
count_call c n p xs = search (rules, the_lemmas)

pub count_tie : (c : Counts) (o : TieWord) (p : ℕ) (xs : List Expr) → count c (tree.Tie o p xs) ≡ count_step c (Expr-F.Tie o p (map (count c) xs))
count_tie c o p xs = search (rules, the_lemmas)

pub count_paren : (c : Counts) (p : ℕ) (x : Expr) → count c (tree.Paren p x) ≡ count_step c (Expr-F.Paren p (count c x))
count_paren c p x = search (rules, the_lemmas)

pub count_concat : (c : Counts) (p : ℕ) (xs : List Expr) → count c (tree.Concat p xs) ≡ count_step c (Expr-F.Concat p (map (count c) xs))
count_concat c p xs = search (rules, the_lemmas)

pub count_repeat : (c : Counts) (p : ℕ) (n : Leaf) (q : ℕ) (x : Expr) → count c (tree.Repeat p n q x) ≡ count_step c (Expr-F.Repeat p n q (count c x))
count_repeat c p n q x = search (rules, the_lemmas)

pub count_unary : (c : Counts) (o : UnaryOp) (p : ℕ) (x : Expr) → count c (tree.Unary o p x) ≡ count_step c (Expr-F.Unary o p (count c x))
count_unary c o p x = search (rules, the_lemmas)

pub count_binary : (c : Counts) (o : Operator) (a b : Expr) → count c (tree.Binary o a b) ≡ count_step c (Expr-F.Binary o (count c a) (count c b))
count_binary c o a b = search (rules, the_lemmas)

pub count_conditional : (c : Counts) (x a b : Expr) → count c (tree.Conditional x a b) ≡ count_step c (Expr-F.Conditional (count c x) (count c a) (count c b))
count_conditional c x a b = search (rules, the_lemmas)
