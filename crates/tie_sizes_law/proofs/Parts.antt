-- An expression in which no rule is broken has right sizes.
use Rattle.std.proofs.Common.{ℕ, zero, suc, ◌≤◌, List, [], ◌∷◌, ◌++◌, length, ap, subst, arith, length-append}
use Rattle.std.specs.List.{flat_map, AllByRecursion}
use Rattle.tie_mean.specs.Scope.{Widths}
use Rattle.tie_grammar.specs.declared.tree.Decl.{Decl}
use Rattle.tie_grammar.specs.declared.tree.Tree.{Tree}
use Rattle.tie_grammar.specs.declared.tree.Expr.{Expr}
use Rattle.tie_grammar.specs.Spelling.{Groups}
use Rattle.tie_grammar.proofs.Shapes as shape
use Rattle.tie_grammar.proofs.Shapes.{Form, form}
use Rattle.tie_rules.specs.Parts.{parts}
use Rattle.tie_rules.proofs.Shapes.{below-Index, below-Call, below-Tie, below-Paren, below-Concat, below-Repeat, below-Unary, below-Binary, below-Conditional}
use Rattle.tie_sizes_law.proofs.Forms.{IsSized, Seeing, IsClean, sized-Literal, sized-Name, sized-Select, sized-Index, sized-Call, sized-Paren, sized-Concat, sized-Repeat, sized-Unary, sized-Binary, sized-Conditional}
use Rattle.tie_sizes_law.proofs.TieForms.{sized-Tie}

front : {A : Type 0} (P : A → Type 0) (xs ys : List A) → AllByRecursion P (xs ++ ys) → AllByRecursion P xs
front P [] ys h = tt
front P (x ∷ xs) ys h = (h.0, front P xs ys h.1)

back : {A : Type 0} (P : A → Type 0) (xs ys : List A) → AllByRecursion P (xs ++ ys) → AllByRecursion P ys
back P [] ys h = h
back P (x ∷ xs) ys h = back P xs ys h.1

-- no rule is broken at any part
abbrev pub AreClean : Tree → Decl → Widths → List Expr → Type 0
AreClean t decl w xs = AllByRecursion (IsClean t decl w) xs

module _ (t : Tree) (decl : Decl) (w : Widths) (s : Seeing t decl w) where
  each_sized : (k : ℕ) → ((x : Expr) → length (parts x) ≤ k → Groups x → AreClean t decl w (parts x) → IsSized w x)
      → (xs : List Expr) → length (flat_map parts xs) ≤ k → AllByRecursion Groups xs → AreClean t decl w (flat_map parts xs) → AllByRecursion (IsSized w) xs
  each_sized k one [] len g h = tt
  each_sized k one (x ∷ xs) len g h =
      let sum = length-append (parts x) (flat_map parts xs) in (
        one x (omega arith) g.0 (front (IsClean t decl w) (parts x) (flat_map parts xs) h),
        each_sized k one xs (omega arith) g.1 (back (IsClean t decl w) (parts x) (flat_map parts xs) h),
      )

  go : (k : ℕ) (x : Expr) → Form x → length (parts x) ≤ k → Groups x → AreClean t decl w (parts x) → IsSized w x
  go zero x f len g h = absurd (omega arith)
  go (suc k) _ (shape.literal x) len g h = sized-Literal t decl w x h.0
  go (suc k) _ (shape.name n) len g h = sized-Name t decl w s n h.0
  go (suc k) _ (shape.select n high low) len g h = sized-Select t decl w s n high low h.0
  go (suc k) _ (shape.index n x) len g h =
      let is = below-Index n x in
      sized-Index t decl w s n x (form x) h.0
      (go k x (form x) (omega (arith, ap length is)) (shape.parts-Index n x g) (subst (AreClean t decl w) is h.1))
  go (suc k) _ (shape.call n p xs) len g h =
      let is = below-Call n p xs in
      sized-Call t decl w s n p xs h.0
      (each_sized k (λ x. go k x (form x)) xs (omega (arith, ap length is)) (shape.parts-Call n p xs g) (subst (AreClean t decl w) is h.1))
  go (suc k) _ (shape.tie o p xs) len g h =
      let is = below-Tie o p xs in
      sized-Tie t decl w o p xs h.0
      (each_sized k (λ x. go k x (form x)) xs (omega (arith, ap length is)) (shape.parts-Tie o p xs g).1 (subst (AreClean t decl w) is h.1))
  go (suc k) _ (shape.paren p x) len g h =
      let is = below-Paren p x in
      sized-Paren t decl w p x h.0 (go k x (form x) (omega (arith, ap length is)) (shape.parts-Paren p x g) (subst (AreClean t decl w) is h.1))
  go (suc k) _ (shape.concat p xs) len g h =
      let is = below-Concat p xs in
      let both = shape.parts-Concat p xs g in
      sized-Concat t decl w p xs both.0 h.0
      (each_sized k (λ x. go k x (form x)) xs (omega (arith, ap length is)) both.1 (subst (AreClean t decl w) is h.1))
  go (suc k) _ (shape.repeat p n q x) len g h =
      let is = below-Repeat p n q x in
      sized-Repeat t decl w p n q x h.0 (go k x (form x) (omega (arith, ap length is)) (shape.parts-Repeat p n q x g) (subst (AreClean t decl w) is h.1))
  go (suc k) _ (shape.unary o p x) len g h =
      let is = below-Unary o p x in
      sized-Unary t decl w o p x h.0 (go k x (form x) (omega (arith, ap length is)) (shape.parts-Unary o p x g).1 (subst (AreClean t decl w) is h.1))
  go (suc k) _ (shape.binary o a b) len g h =
      let is = below-Binary o a b in
      let sum = length-append (parts a) (parts b) in
      let g2 = shape.parts-Binary o a b g in
      let all = subst (AreClean t decl w) is h.1 in
      sized-Binary t decl w o a b h.0
      (go k a (form a) (omega (arith, ap length is)) g2.2 (front (IsClean t decl w) (parts a) (parts b) all))
      (go k b (form b) (omega (arith, ap length is)) g2.3 (back (IsClean t decl w) (parts a) (parts b) all))
  go (suc k) _ (shape.conditional c a b) len g h =
      let is = below-Conditional c a b in
      let sum = length-append (parts c) (parts a ++ parts b) in
      let sum2 = length-append (parts a) (parts b) in
      let g2 = shape.parts-Conditional c a b g in
      let all = subst (AreClean t decl w) is h.1 in
      let rest = back (IsClean t decl w) (parts c) (parts a ++ parts b) all in
      sized-Conditional t decl w c a b h.0
      (go k c (form c) (omega (arith, ap length is)) g2.1 (front (IsClean t decl w) (parts c) (parts a ++ parts b) all))
      (go k a (form a) (omega (arith, ap length is)) g2.2 (front (IsClean t decl w) (parts a) (parts b) rest))
      (go k b (form b) (omega (arith, ap length is)) g2.3 (back (IsClean t decl w) (parts a) (parts b) rest))

  pub is_sized : (x : Expr) → Groups x → AreClean t decl w (parts x) → IsSized w x
  is_sized x g h = go (length (parts x)) x (form x) (omega arith) g h
