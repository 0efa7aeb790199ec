-- Induction over the forms of expressions.
use Rattle.std.proofs.Common.{◌≡◌, ℕ, zero, suc, ◌+◌, ◌≤◌, List, [], ◌∷◌, ◌++◌, map, sum, sym, ap, ◌∙◌, arith, rules}
use Rattle.std.specs.List.{AllByRecursion}
use Rattle.std.proofs.lemmas.List.Sums.{sum_by-cons, sum-map}
use Rattle.tie_grammar.specs.declared.symbol.Leaf.{Leaf}
use Rattle.tie_grammar.specs.declared.symbol.TieWord.{TieWord}
use Rattle.tie_grammar.specs.declared.tree.Literal.{Literal}
use Rattle.tie_grammar.specs.declared.tree.UnaryOp.{UnaryOp}
use Rattle.tie_grammar.specs.declared.tree.Operator.{Operator}
use Rattle.tie_grammar.specs.declared.tree.Expr.{Expr}
use Rattle.tie_grammar.specs.declared.tree.Expr.TheVariants as e
use Rattle.tie_grammar.specs.declared.tree.Expr.TheOpen.{Expr-F}
use Rattle.tie_grammar.specs.declared.tree.Expr.TheFolds.{fold-Expr, the_lemmas}
use Rattle.tie_grammar.proofs.Shapes as shape
use Rattle.tie_grammar.proofs.Shapes.{Form, form}

-- what holds of each form whose parts have it
pub record Cases (P : Expr → Type 0) : Type 0 where
  pub literal : (x : Literal) → P (e.Literal x)
  pub name : (n : Leaf) → P (e.Name n)
  pub select : (n h l : Leaf) → P (e.Select n h l)
  pub index : (n : Leaf) (x : Expr) → P x → P (e.Index n x)
  pub call : (n : Leaf) (p : ℕ) (xs : List Expr) → AllByRecursion P xs → P (e.Call n p xs)
  pub tie : (w : TieWord) (p : ℕ) (xs : List Expr) → AllByRecursion P xs → P (e.Tie w p xs)
  pub paren : (p : ℕ) (x : Expr) → P x → P (e.Paren p x)
  pub concat : (p : ℕ) (xs : List Expr) → AllByRecursion P xs → P (e.Concat p xs)
  pub repeat : (p : ℕ) (n : Leaf) (q : ℕ) (x : Expr) → P x → P (e.Repeat p n q x)
  pub unary : (o : UnaryOp) (p : ℕ) (x : Expr) → P x → P (e.Unary o p x)
  pub binary : (o : Operator) (a b : Expr) → P a → P b → P (e.Binary o a b)
  pub conditional : (c a b : Expr) → P c → P a → P b → P (e.Conditional c a b)

-- the forms in an expression
abbrev forms_step : Expr-F ℕ → ℕ
forms_step (Expr-F.Literal x) = 1
forms_step (Expr-F.Name name) = 1
forms_step (Expr-F.Select name high low) = 1
forms_step (Expr-F.Index name x) = 1 + x
forms_step (Expr-F.Call name p args) = 1 + sum args
forms_step (Expr-F.Tie word p args) = 1 + sum args
forms_step (Expr-F.Paren p x) = 1 + x
forms_step (Expr-F.Concat p parts) = 1 + sum parts
forms_step (Expr-F.Repeat p count q x) = 1 + x
forms_step (Expr-F.Unary o p x) = 1 + x
forms_step (Expr-F.Binary o a b) = 1 + (a + b)
forms_step (Expr-F.Conditional x a b) = 1 + (x + (a + b))

abbrev forms : Expr → ℕ
forms = fold-Expr ℕ forms_step

forms-Literal : (x : Literal) → forms (e.Literal x) ≡ 1
forms-Literal x = search (rules, the_lemmas)

forms-Name : (n : Leaf) → forms (e.Name n) ≡ 1
forms-Name n = search (rules, the_lemmas)

forms-Select : (n h l : Leaf) → forms (e.Select n h l) ≡ 1
forms-Select n h l = search (rules, the_lemmas)

forms-Index : (n : Leaf) (x : Expr) → forms (e.Index n x) ≡ 1 + forms x
forms-Index n x = search (rules, the_lemmas)

forms-Call : (n : Leaf) (p : ℕ) (xs : List Expr) → forms (e.Call n p xs) ≡ 1 + sum (map forms xs)
forms-Call n p xs = search (rules, the_lemmas)

forms-Tie : (w : TieWord) (p : ℕ) (xs : List Expr) → forms (e.Tie w p xs) ≡ 1 + sum (map forms xs)
forms-Tie w p xs = search (rules, the_lemmas)

forms-Paren : (p : ℕ) (x : Expr) → forms (e.Paren p x) ≡ 1 + forms x
forms-Paren p x = search (rules, the_lemmas)

forms-Concat : (p : ℕ) (xs : List Expr) → forms (e.Concat p xs) ≡ 1 + sum (map forms xs)
forms-Concat p xs = search (rules, the_lemmas)

forms-Repeat : (p : ℕ) (n : Leaf) (q : ℕ) (x : Expr) → forms (e.Repeat p n q x) ≡ 1 + forms x
forms-Repeat p n q x = search (rules, the_lemmas)

forms-Unary : (o : UnaryOp) (p : ℕ) (x : Expr) → forms (e.Unary o p x) ≡ 1 + forms x
forms-Unary o p x = search (rules, the_lemmas)

forms-Binary : (o : Operator) (a b : Expr) → forms (e.Binary o a b) ≡ 1 + (forms a + forms b)
forms-Binary o a b = search (rules, the_lemmas)

forms-Conditional : (c a b : Expr) → forms (e.Conditional c a b) ≡ 1 + (forms c + (forms a + forms b))
forms-Conditional c a b = search (rules, the_lemmas)

some_form : (x : Expr) → Form x → 1 ≤ forms x
some_form _ (shape.literal x) = omega (arith, forms-Literal x)
some_form _ (shape.name n) = omega (arith, forms-Name n)
some_form _ (shape.select n h l) = omega (arith, forms-Select n h l)
some_form _ (shape.index n x) = omega (arith, forms-Index n x)
some_form _ (shape.call n p xs) = omega (arith, forms-Call n p xs)
some_form _ (shape.tie w p xs) = omega (arith, forms-Tie w p xs)
some_form _ (shape.paren p x) = omega (arith, forms-Paren p x)
some_form _ (shape.concat p xs) = omega (arith, forms-Concat p xs)
some_form _ (shape.repeat p n q x) = omega (arith, forms-Repeat p n q x)
some_form _ (shape.unary o p x) = omega (arith, forms-Unary o p x)
some_form _ (shape.binary o a b) = omega (arith, forms-Binary o a b)
some_form _ (shape.conditional c a b) = omega (arith, forms-Conditional c a b)

sum_cons : (x : Expr) (xs : List Expr) → sum (map forms (x ∷ xs)) ≡ forms x + sum (map forms xs)
sum_cons x xs = sum-map forms (x ∷ xs) ∙ sum_by-cons forms x xs ∙ ap (λ n. forms x + n) (sym (sum-map forms xs))

module _ (P : Expr → Type 0) (cases : Cases P) where
  each : (k : ℕ) → ((x : Expr) → forms x ≤ k → P x) → (xs : List Expr) → sum (map forms xs) ≤ k → AllByRecursion P xs
  each k one [] h = tt
  each k one (x ∷ xs) h = let both = sum_cons x xs in (one x (omega (arith, both)), each k one xs (omega (arith, both)))

  go : (k : ℕ) (x : Expr) → Form x → forms x ≤ k → P x
  go zero x f h = let some = some_form x f in absurd (omega (arith, some))
  go (suc k) _ (shape.literal x) h = cases.literal x
  go (suc k) _ (shape.name n) h = cases.name n
  go (suc k) _ (shape.select n high low) h = cases.select n high low
  go (suc k) _ (shape.index n x) h = cases.index n x (go k x (form x) (omega (arith, forms-Index n x)))
  go (suc k) _ (shape.call n p xs) h = cases.call n p xs (each k (λ x. go k x (form x)) xs (omega (arith, forms-Call n p xs)))
  go (suc k) _ (shape.tie w p xs) h = cases.tie w p xs (each k (λ x. go k x (form x)) xs (omega (arith, forms-Tie w p xs)))
  go (suc k) _ (shape.paren p x) h = cases.paren p x (go k x (form x) (omega (arith, forms-Paren p x)))
  go (suc k) _ (shape.concat p xs) h = cases.concat p xs (each k (λ x. go k x (form x)) xs (omega (arith, forms-Concat p xs)))
  go (suc k) _ (shape.repeat p n q x) h = cases.repeat p n q x (go k x (form x) (omega (arith, forms-Repeat p n q x)))
  go (suc k) _ (shape.unary o p x) h = cases.unary o p x (go k x (form x) (omega (arith, forms-Unary o p x)))
  go (suc k) _ (shape.binary o a b) h =
      let is = forms-Binary o a b in
      cases.binary o a b (go k a (form a) (omega (arith, is))) (go k b (form b) (omega (arith, is)))
  go (suc k) _ (shape.conditional c a b) h =
      let is = forms-Conditional c a b in
      cases.conditional c a b (go k c (form c) (omega (arith, is))) (go k a (form a) (omega (arith, is))) (go k b (form b) (omega (arith, is)))

  pub everywhere : (x : Expr) → P x
  everywhere x = go (forms x) x (form x) (omega arith)
