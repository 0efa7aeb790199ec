-- Expressions that differ in places alone mean and count the same.
use Rattle.std.proofs.Common.{◌≡◌, ℕ, ◌*◌, ◌≤◌, List, IsTrue, Result, Some, None, refl, sym, ap, subst, ◌∙◌, arith}
use Rattle.std.specs.Result.{IfOk}
use Rattle.std.proofs.lemmas.Result.{IfOk-weaker}
use Rattle.tie_expr.specs.Tree as typed
use Rattle.tie_expr.specs.declared.node.Node.{Node}
use Rattle.tie_grammar.specs.declared.symbol.Leaf.{Leaf}
use Rattle.tie_grammar.specs.declared.symbol.TieWord.{TieWord}
use Rattle.tie_grammar.specs.declared.tree.UnaryOp.{UnaryOp}
use Rattle.tie_grammar.specs.declared.tree.Operator.{Operator}
use Rattle.tie_grammar.specs.declared.tree.Expr.{Expr}
use Rattle.tie_grammar.specs.declared.tree.Expr.TheVariants as tree
use Rattle.tie_mean.specs.Counts.{Counts, count, counts_of}
use Rattle.tie_mean.specs.Scope.{Widths}
use Rattle.tie_mean.specs.Values.{meaning, size}
use Rattle.tie_mean.proofs.Layers.{call_is, tie_is, concat_is, repeat_is, unary_is}
use Rattle.tie_translate.specs.Bounds.{Bounds, IsBounded, nodes_of, reads_of, node_size}
use Rattle.tie_translate.specs.Translation.{Env, at_size, in_size}
use Rattle.tie_translate.proofs.Within.{within_same}
use Rattle.tie_translate.proofs.CountLayers.{count_call, count_tie, count_concat, count_repeat, count_unary}

pub record AreSame (x y : Expr) : Type 0 where
  pub means : (w : Widths) → meaning w x ≡ meaning w y
  pub counts : (c : Counts) → count c x ≡ count c y

pub same : (x y : Expr) → x ≡ y → AreSame x y
same x y e = record { means = λ w. ap (meaning w) e; counts = λ c. ap (count c) e }

along : (x y z : Expr) → x ≡ y → AreSame y z → AreSame x z
along x y z e s = record { means = λ w. ap (meaning w) e ∙ s.means w; counts = λ c. ap (count c) e ∙ s.counts c }

pub same_call : (n : Leaf) (p : ℕ) (xs ys : List Expr) (x : Expr) → ys ≡ xs → x ≡ tree.Call n p xs → AreSame x (tree.Call n 0 ys)
same_call n p xs ys x e is = along x (tree.Call n p ys) _ (is ∙ ap (tree.Call n p) (sym e)) (record {
  means = λ w. call_is w n p ys ∙ sym (call_is w n 0 ys);
  counts = λ c. count_call c n p ys ∙ sym (count_call c n 0 ys);
})

pub same_tie : (o : TieWord) (p : ℕ) (xs ys : List Expr) (x : Expr) → ys ≡ xs → x ≡ tree.Tie o p xs → AreSame x (tree.Tie o 0 ys)
same_tie o p xs ys x e is = along x (tree.Tie o p ys) _ (is ∙ ap (tree.Tie o p) (sym e)) (record {
  means = λ w. tie_is w o p ys ∙ sym (tie_is w o 0 ys);
  counts = λ c. count_tie c o p ys ∙ sym (count_tie c o 0 ys);
})

pub same_concat : (p : ℕ) (xs ys : List Expr) (x : Expr) → ys ≡ xs → x ≡ tree.Concat p xs → AreSame x (tree.Concat 0 ys)
same_concat p xs ys x e is = along x (tree.Concat p ys) _ (is ∙ ap (tree.Concat p) (sym e)) (record {
  means = λ w. concat_is w p ys ∙ sym (concat_is w 0 ys);
  counts = λ c. count_concat c p ys ∙ sym (count_concat c 0 ys);
})

pub same_repeat : (p : ℕ) (n : Leaf) (q : ℕ) (y z x : Expr) → z ≡ y → x ≡ tree.Repeat p n q y → AreSame x (tree.Repeat 0 n 0 z)
same_repeat p n q y z x e is = along x (tree.Repeat p n q z) _ (is ∙ ap (tree.Repeat p n q) (sym e)) (record {
  means = λ w. repeat_is w p n q z ∙ sym (repeat_is w 0 n 0 z);
  counts = λ c. count_repeat c p n q z ∙ sym (count_repeat c 0 n 0 z);
})

pub same_unary : (o : UnaryOp) (p : ℕ) (y z x : Expr) → z ≡ y → x ≡ tree.Unary o p y → AreSame x (tree.Unary o 0 z)
same_unary o p y z x e is = along x (tree.Unary o p z) _ (is ∙ ap (tree.Unary o p) (sym e)) (record {
  means = λ w. unary_is w o p z ∙ sym (unary_is w o 0 z);
  counts = λ c. count_unary c o p z ∙ sym (count_unary c o 0 z);
})

pub same_index : (n : Leaf) (y z x : Expr) → z ≡ y → x ≡ tree.Index n y → AreSame x (tree.Index n z)
same_index n y z x e is = same x (tree.Index n z) (is ∙ ap (tree.Index n) (sym e))

pub same_binary : (o : Operator) (a b a' b' x : Expr) → a' ≡ a → b' ≡ b → x ≡ tree.Binary o a b → AreSame x (tree.Binary o a' b')
same_binary o a b a' b' x ea eb is =
    same x (tree.Binary o a' b') (is ∙ ap (λ y. tree.Binary o y b) (sym ea) ∙ ap (tree.Binary o a') (sym eb))

pub same_conditional : (c a b c' a' b' x : Expr) → c' ≡ c → a' ≡ a → b' ≡ b → x ≡ tree.Conditional c a b → AreSame x (tree.Conditional c' a' b')
same_conditional c a b c' a' b' x ec ea eb is =
    same x (tree.Conditional c' a' b') (is ∙ ap (λ y. tree.Conditional y a b) (sym ec) ∙ ap (λ y. tree.Conditional c' y b) (sym ea) ∙ ap (tree.Conditional c' a') (sym eb))

-- ---- clauses

pub sized_same : (w : Widths) (x y : Expr) → AreSame x y → IsTrue (meaning w x).sized → IsTrue (meaning w y).sized
sized_same w x y s h = subst (λ m. IsTrue m.sized) (s.means w) h

pub size_same : (w : Widths) (x y : Expr) (n : ℕ) → AreSame x y → size w x ≤ n → size w y ≤ n
size_same w x y n s h = subst (λ m. m.size ≤ n) (s.means w) h

pub nodes_same : (b : Bounds) (x y : Expr) (n : ℕ) → AreSame x y → nodes_of b x ≤ n → nodes_of b y ≤ n
nodes_same b x y n s h = let e = s.counts (counts_of None b.seen b.names) in subst (λ k. k ≤ n) e h

pub means_same : {E : Type 0} (r : Result Node E) (w : Widths) (env : Env) (n : ℕ) (x y : Expr) → AreSame x y → IfOk r (λ e. typed.meaning e ≡ in_size w env n y) → IfOk r (λ e. typed.meaning e ≡ in_size w env n x)
means_same r w env n x y s h =
    IfOk-weaker r (λ e. typed.meaning e ≡ in_size w env n y) (λ e. typed.meaning e ≡ in_size w env n x) (λ e is. is ∙ sym (ap (at_size env n) (s.means w))) h

bounded_one : (b : Bounds) (k : ℕ) (x y : Expr) (e : Node) → AreSame x y → IsBounded b k y e → IsBounded b k x e
bounded_one b k x y e s h =
    let nodes : nodes_of b x ≡ nodes_of b y = s.counts (counts_of None b.seen b.names) in
    within_same b.widths k (node_size * nodes_of b y) (λ j. reads_of b j y) k (node_size * nodes_of b x) (λ j. reads_of b j x) e e h refl (omega (arith, nodes))
    (λ j. (let reads : reads_of b j x ≡ reads_of b j y = s.counts (counts_of (Some (b.input j)) b.seen (b.reads j)) in omega (arith, reads)))

pub bounded_same : {E : Type 0} (r : Result Node E) (b : Bounds) (k : ℕ) (x y : Expr) → AreSame x y → IfOk r (IsBounded b k y) → IfOk r (IsBounded b k x)
bounded_same r b k x y s h = IfOk-weaker r (IsBounded b k y) (IsBounded b k x) (λ e within. bounded_one b k x y e s within) h
