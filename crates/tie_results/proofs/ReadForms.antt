-- What each form counts, and which names it reads, from its parts.
use Rattle.std.proofs.Common.{◌≡◌, ℕ, ◌+◌, Bool, if◌then◌else◌, List, [], ◌∷◌, ◌++◌, map, sum, rules}
use Rattle.tie_grammar.specs.declared.symbol.Leaf.{Leaf}
use Rattle.tie_grammar.specs.declared.symbol.TieWord.{TieWord}
use Rattle.tie_grammar.specs.declared.tree.Literal.{Literal}
use Rattle.tie_grammar.specs.declared.tree.UnaryOp.{UnaryOp}
use Rattle.tie_grammar.specs.declared.tree.Operator.{Operator}
use Rattle.tie_grammar.specs.declared.tree.Expr.{Expr}
use Rattle.tie_grammar.specs.declared.tree.Expr.TheVariants as e
use Rattle.tie_grammar.specs.declared.tree.Expr.TheOpen.{Expr-F}
use Rattle.tie_grammar.specs.declared.tree.Expr.TheFolds.{the_lemmas}
use Rattle.tie_mean.specs.Counts.{Counts, count, count_step}
use Rattle.tie_results.specs.Reads.{names_read, reads_step}

pub count-Literal : (c : Counts) (x : Literal) → count c (e.Literal x) ≡ count_step c (Expr-F.Literal x)
count-Literal c x = search (rules, the_lemmas)

pub count-Name : (c : Counts) (n : Leaf) → count c (e.Name n) ≡ count_step c (Expr-F.Name n)
count-Name c n = search (rules, the_lemmas)

pub count-Select : (c : Counts) (n h l : Leaf) → count c (e.Select n h l) ≡ count_step c (Expr-F.Select n h l)
count-Select c n h l = search (rules, the_lemmas)

pub count-Index : (c : Counts) (n : Leaf) (x : Expr) → count c (e.Index n x) ≡ count_step c (Expr-F.Index n (count c x))
count-Index c n x = search (rules, the_lemmas)

pub count-Call : (c : Counts) (n : Leaf) (p : ℕ) (xs : List Expr) → count c (e.Call n p xs) ≡ count_step c (Expr-F.Call n p (map (count c) xs))
count-Call c n p xs = search (rules, the_lemmas)

pub count-Tie : (c : Counts) (w : TieWord) (p : ℕ) (xs : List Expr) → count c (e.Tie w p xs) ≡ count_step c (Expr-F.Tie w p (map (count c) xs))
count-Tie c w p xs = search (rules, the_lemmas)

pub count-Paren : (c : Counts) (p : ℕ) (x : Expr) → count c (e.Paren p x) ≡ count c x
count-Paren c p x = search (rules, the_lemmas)

pub count-Concat : (c : Counts) (p : ℕ) (xs : List Expr) → count c (e.Concat p xs) ≡ count_step c (Expr-F.Concat p (map (count c) xs))
count-Concat c p xs = search (rules, the_lemmas)

pub count-Repeat : (c : Counts) (p : ℕ) (n : Leaf) (q : ℕ) (x : Expr) → count c (e.Repeat p n q x) ≡ count_step c (Expr-F.Repeat p n q (count c x))
count-Repeat c p n q x = search (rules, the_lemmas)

pub count-Unary : (c : Counts) (o : UnaryOp) (p : ℕ) (x : Expr) → count c (e.Unary o p x) ≡ count_step c (Expr-F.Unary o p (count c x))
count-Unary c o p x = search (rules, the_lemmas)

pub count-Binary : (c : Counts) (o : Operator) (a b : Expr) → count c (e.Binary o a b) ≡ count_step c (Expr-F.Binary o (count c a) (count c b))
count-Binary c o a b = search (rules, the_lemmas)

pub count-Conditional : (c : Counts) (x a b : Expr) → count c (e.Conditional x a b) ≡ count_step c (Expr-F.Conditional (count c x) (count c a) (count c b))
count-Conditional c x a b = search (rules, the_lemmas)

pub reads-Literal : (t : List ℕ → Bool) (x : Literal) → names_read t (e.Literal x) ≡ []
reads-Literal t x = search (rules, the_lemmas)

pub reads-Name : (t : List ℕ → Bool) (n : Leaf) → names_read t (e.Name n) ≡ n.bytes ∷ []
reads-Name t n = search (rules, the_lemmas)

pub reads-Select : (t : List ℕ → Bool) (n h l : Leaf) → names_read t (e.Select n h l) ≡ n.bytes ∷ []
reads-Select t n h l = search (rules, the_lemmas)

pub reads-Index : (t : List ℕ → Bool) (n : Leaf) (x : Expr) → names_read t (e.Index n x) ≡ (if t n.bytes then names_read t x else n.bytes ∷ [])
reads-Index t n x = search (rules, the_lemmas)

pub reads-Call : (t : List ℕ → Bool) (n : Leaf) (p : ℕ) (xs : List Expr) → names_read t (e.Call n p xs) ≡ reads_step t (Expr-F.Call n p (map (names_read t) xs))
reads-Call t n p xs = search (rules, the_lemmas)

pub reads-Tie : (t : List ℕ → Bool) (w : TieWord) (p : ℕ) (xs : List Expr) → names_read t (e.Tie w p xs) ≡ reads_step t (Expr-F.Tie w p (map (names_read t) xs))
reads-Tie t w p xs = search (rules, the_lemmas)

pub reads-Paren : (t : List ℕ → Bool) (p : ℕ) (x : Expr) → names_read t (e.Paren p x) ≡ names_read t x
reads-Paren t p x = search (rules, the_lemmas)

pub reads-Concat : (t : List ℕ → Bool) (p : ℕ) (xs : List Expr) → names_read t (e.Concat p xs) ≡ reads_step t (Expr-F.Concat p (map (names_read t) xs))
reads-Concat t p xs = search (rules, the_lemmas)

pub reads-Repeat : (t : List ℕ → Bool) (p : ℕ) (n : Leaf) (q : ℕ) (x : Expr) → names_read t (e.Repeat p n q x) ≡ names_read t x
reads-Repeat t p n q x = search (rules, the_lemmas)

pub reads-Unary : (t : List ℕ → Bool) (o : UnaryOp) (p : ℕ) (x : Expr) → names_read t (e.Unary o p x) ≡ names_read t x
reads-Unary t o p x = search (rules, the_lemmas)

pub reads-Binary : (t : List ℕ → Bool) (o : Operator) (a b : Expr) → names_read t (e.Binary o a b) ≡ names_read t a ++ names_read t b
reads-Binary t o a b = search (rules, the_lemmas)

pub reads-Conditional : (t : List ℕ → Bool) (x a b : Expr) → names_read t (e.Conditional x a b) ≡ names_read t x ++ (names_read t a ++ names_read t b)
reads-Conditional t x a b = search (rules, the_lemmas)
