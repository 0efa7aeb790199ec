-- Expressions by the form in which code makes them: what each spells, what it asks of its parts, and that there is no other.
use Rattle.std.proofs.Common.{◌≡◌, ℕ, ◌<◌, ◌≤◌, List, [], ◌∷◌, ◌++◌, refl, sym, ap, subst, ◌∙◌}
use Rattle.std.specs.List.{flat_map, AllByRecursion}
use denote.Hole.Carrier.{hidden, roll}
use Rattle.tie_grammar.specs.declared.symbol.Leaf.{Leaf}
use Rattle.tie_grammar.specs.declared.symbol.TieWord.{TieWord}
use Rattle.tie_grammar.specs.declared.symbol.Mark.TheVariants as m
use Rattle.tie_grammar.specs.declared.symbol.Symbol.TheVariants as s
use Rattle.tie_grammar.specs.declared.tree.Literal.{Literal}
use Rattle.tie_grammar.specs.declared.tree.UnaryOp.{UnaryOp}
use Rattle.tie_grammar.specs.declared.tree.Operator.{Operator}
use Rattle.tie_grammar.specs.declared.tree.Expr.{Expr, Row_of-Expr, more_of-Expr, end_of-Expr, items-the_row-Expr, items_hidden-the_row-Expr-1, out-Expr, roll-Expr, roll-out-Expr}
use Rattle.tie_grammar.specs.declared.tree.Expr.TheVariants as e
use Rattle.tie_grammar.specs.declared.tree.Expr.TheOpen.{Expr-F}
use Rattle.tie_grammar.specs.declared.tree.Expr.TheBlock.{hidden-the_row-Expr-0, hidden-the_row-Expr-1}
use Rattle.tie_grammar.specs.Spelling.{expr, exprs, more_exprs, commas, behind_comma, unary_sign, binary_sign, level, tightness, Groups, AllGroup, SomeExpr, IsFilled}

-- ---- lists of expressions

more_is : {n : _} (row : Row_of-Expr n) → more_exprs row ≡ flat_map (behind_comma expr) (items-the_row-Expr _ row)
more_is end_of-Expr = refl
more_is (more_of-Expr x row) = ap (λ z. s.Mark m.Comma ∷ (expr x ++ z)) (more_is row)

row_is : {n : _} (row : Row_of-Expr n) → exprs row ≡ commas expr (items-the_row-Expr _ row)
row_is end_of-Expr = refl
row_is (more_of-Expr x row) = ap (λ z. expr x ++ z) (more_is row)

list_is : (xs : List Expr) → exprs (hidden-the_row-Expr-1 xs) ≡ commas expr xs
list_is xs = row_is (hidden-the_row-Expr-1 xs) ∙ ap (commas expr) (items_hidden-the_row-Expr-1 xs)

row_groups : {n : _} (row : Row_of-Expr n) → AllByRecursion Groups (items-the_row-Expr _ row) → AllGroup row
row_groups end_of-Expr h = tt
row_groups (more_of-Expr x row) h = (h.0, row_groups row h.1)

row_parts : {n : _} (row : Row_of-Expr n) → AllGroup row → AllByRecursion Groups (items-the_row-Expr _ row)
row_parts end_of-Expr h = tt
row_parts (more_of-Expr x row) h = (h.0, row_parts row h.1)

row_some : {n : _} (row : Row_of-Expr n) → IsFilled (items-the_row-Expr _ row) → SomeExpr row
row_some end_of-Expr h = h
row_some (more_of-Expr x row) h = tt

row_filled : {n : _} (row : Row_of-Expr n) → SomeExpr row → IsFilled (items-the_row-Expr _ row)
row_filled end_of-Expr h = h
row_filled (more_of-Expr x row) h = tt

list_groups : (xs : List Expr) → AllByRecursion Groups xs → AllGroup (hidden-the_row-Expr-1 xs)
list_groups xs h = row_groups (hidden-the_row-Expr-1 xs) (subst (AllByRecursion Groups) (sym (items_hidden-the_row-Expr-1 xs)) h)

list_parts : (xs : List Expr) → AllGroup (hidden-the_row-Expr-1 xs) → AllByRecursion Groups xs
list_parts xs h = subst (AllByRecursion Groups) (items_hidden-the_row-Expr-1 xs) (row_parts (hidden-the_row-Expr-1 xs) h)

list_some : (xs : List Expr) → IsFilled xs → SomeExpr (hidden-the_row-Expr-1 xs)
list_some xs h = row_some (hidden-the_row-Expr-1 xs) (subst IsFilled (sym (items_hidden-the_row-Expr-1 xs)) h)

list_filled : (xs : List Expr) → SomeExpr (hidden-the_row-Expr-1 xs) → IsFilled xs
list_filled xs h = subst IsFilled (items_hidden-the_row-Expr-1 xs) (row_filled (hidden-the_row-Expr-1 xs) h)

-- ---- what each spells

pub expr-Index : (n : Leaf) (x : Expr) → expr (e.Index n x) ≡ s.Name n ∷ s.Mark m.Bracket ∷ (expr x ++ s.Mark m.EndBracket ∷ [])
unfolding hidden-the_row-Expr-0 hidden
expr-Index n x = refl

pub expr-Call : (n : Leaf) (p : ℕ) (xs : List Expr) → expr (e.Call n p xs) ≡ s.Name n ∷ s.Paren p ∷ (commas expr xs ++ s.Mark m.EndParen ∷ [])
expr-Call n p xs = ap (λ z. s.Name n ∷ s.Paren p ∷ (z ++ s.Mark m.EndParen ∷ [])) (list_is xs)

pub expr-Tie : (w : TieWord) (p : ℕ) (xs : List Expr) → expr (e.Tie w p xs) ≡ s.Tie w ∷ s.Paren p ∷ (commas expr xs ++ s.Mark m.EndParen ∷ [])
expr-Tie w p xs = ap (λ z. s.Tie w ∷ s.Paren p ∷ (z ++ s.Mark m.EndParen ∷ [])) (list_is xs)

pub expr-Paren : (p : ℕ) (x : Expr) → expr (e.Paren p x) ≡ s.Paren p ∷ (expr x ++ s.Mark m.EndParen ∷ [])
unfolding hidden-the_row-Expr-0 hidden
expr-Paren p x = refl

pub expr-Concat : (p : ℕ) (xs : List Expr) → expr (e.Concat p xs) ≡ s.Brace p ∷ (commas expr xs ++ s.Mark m.EndBrace ∷ [])
expr-Concat p xs = ap (λ z. s.Brace p ∷ (z ++ s.Mark m.EndBrace ∷ [])) (list_is xs)

pub expr-Repeat : (p : ℕ) (n : Leaf) (q : ℕ) (x : Expr) → expr (e.Repeat p n q x) ≡ s.Brace p ∷ s.Number n ∷ s.Brace q ∷ (expr x ++ s.Mark m.EndBrace ∷ s.Mark m.EndBrace ∷ [])
unfolding hidden-the_row-Expr-0 hidden
expr-Repeat p n q x = refl

pub expr-Unary : (o : UnaryOp) (p : ℕ) (x : Expr) → expr (e.Unary o p x) ≡ s.Sign (unary_sign o) p ∷ expr x
unfolding hidden-the_row-Expr-0 hidden
expr-Unary o p x = refl

pub expr-Binary : (o : Operator) (a b : Expr) → expr (e.Binary o a b) ≡ expr a ++ s.Sign (binary_sign o.op) o.place ∷ expr b
unfolding hidden-the_row-Expr-0 hidden
expr-Binary o a b = refl

pub expr-Conditional : (c a b : Expr) → expr (e.Conditional c a b) ≡ expr c ++ s.Mark m.Question ∷ (expr a ++ s.Mark m.Colon ∷ expr b)
unfolding hidden-the_row-Expr-0 hidden
expr-Conditional c a b = refl

-- ---- what each asks of its parts

pub groups-Index : (n : Leaf) (x : Expr) → Groups x → Groups (e.Index n x)
unfolding hidden-the_row-Expr-0 hidden
groups-Index n x h = h

pub parts-Index : (n : Leaf) (x : Expr) → Groups (e.Index n x) → Groups x
unfolding hidden-the_row-Expr-0 hidden
parts-Index n x h = h

pub groups-Call : (n : Leaf) (p : ℕ) (xs : List Expr) → AllByRecursion Groups xs → Groups (e.Call n p xs)
groups-Call n p xs h = list_groups xs h

pub parts-Call : (n : Leaf) (p : ℕ) (xs : List Expr) → Groups (e.Call n p xs) → AllByRecursion Groups xs
parts-Call n p xs h = list_parts xs h

pub groups-Tie : (w : TieWord) (p : ℕ) (xs : List Expr) → IsFilled xs → AllByRecursion Groups xs → Groups (e.Tie w p xs)
groups-Tie w p xs f h = (list_some xs f, list_groups xs h)

pub parts-Tie : (w : TieWord) (p : ℕ) (xs : List Expr) → Groups (e.Tie w p xs) → IsFilled xs × AllByRecursion Groups xs
parts-Tie w p xs h = (list_filled xs h.0, list_parts xs h.1)

pub groups-Paren : (p : ℕ) (x : Expr) → Groups x → Groups (e.Paren p x)
unfolding hidden-the_row-Expr-0 hidden
groups-Paren p x h = h

pub parts-Paren : (p : ℕ) (x : Expr) → Groups (e.Paren p x) → Groups x
unfolding hidden-the_row-Expr-0 hidden
parts-Paren p x h = h

pub groups-Concat : (p : ℕ) (xs : List Expr) → IsFilled xs → AllByRecursion Groups xs → Groups (e.Concat p xs)
groups-Concat p xs f h = (list_some xs f, list_groups xs h)

pub parts-Concat : (p : ℕ) (xs : List Expr) → Groups (e.Concat p xs) → IsFilled xs × AllByRecursion Groups xs
parts-Concat p xs h = (list_filled xs h.0, list_parts xs h.1)

pub groups-Repeat : (p : ℕ) (n : Leaf) (q : ℕ) (x : Expr) → Groups x → Groups (e.Repeat p n q x)
unfolding hidden-the_row-Expr-0 hidden
groups-Repeat p n q x h = h

pub parts-Repeat : (p : ℕ) (n : Leaf) (q : ℕ) (x : Expr) → Groups (e.Repeat p n q x) → Groups x
unfolding hidden-the_row-Expr-0 hidden
parts-Repeat p n q x h = h

pub groups-Unary : (o : UnaryOp) (p : ℕ) (x : Expr) → 11 ≤ tightness x → Groups x → Groups (e.Unary o p x)
unfolding hidden-the_row-Expr-0 hidden
groups-Unary o p x t h = (t, h)

pub parts-Unary : (o : UnaryOp) (p : ℕ) (x : Expr) → Groups (e.Unary o p x) → (11 ≤ tightness x) × Groups x
unfolding hidden-the_row-Expr-0 hidden
parts-Unary o p x h = h

pub groups-Binary : (o : Operator) (a b : Expr) → level o.op ≤ tightness a → level o.op < tightness b → Groups a → Groups b → Groups (e.Binary o a b)
unfolding hidden-the_row-Expr-0 hidden
groups-Binary o a b t u g h = (t, u, g, h)

pub parts-Binary : (o : Operator) (a b : Expr) → Groups (e.Binary o a b) → (level o.op ≤ tightness a) × (level o.op < tightness b) × Groups a × Groups b
unfolding hidden-the_row-Expr-0 hidden
parts-Binary o a b h = h

pub groups-Conditional : (c a b : Expr) → 1 ≤ tightness c → Groups c → Groups a → Groups b → Groups (e.Conditional c a b)
unfolding hidden-the_row-Expr-0 hidden
groups-Conditional c a b t f g h = (t, f, g, h)

pub parts-Conditional : (c a b : Expr) → Groups (e.Conditional c a b) → (1 ≤ tightness c) × Groups c × Groups a × Groups b
unfolding hidden-the_row-Expr-0 hidden
parts-Conditional c a b h = h

-- ---- that there is no other

pub data Form : Expr → Type 0 where
  literal : (x : Literal) → Form (e.Literal x)
  name : (n : Leaf) → Form (e.Name n)
  select : (n high low : Leaf) → Form (e.Select n high low)
  index : (n : Leaf) (x : Expr) → Form (e.Index n x)
  call : (n : Leaf) (p : ℕ) (xs : List Expr) → Form (e.Call n p xs)
  tie : (w : TieWord) (p : ℕ) (xs : List Expr) → Form (e.Tie w p xs)
  paren : (p : ℕ) (x : Expr) → Form (e.Paren p x)
  concat : (p : ℕ) (xs : List Expr) → Form (e.Concat p xs)
  repeat : (p : ℕ) (n : Leaf) (q : ℕ) (x : Expr) → Form (e.Repeat p n q x)
  unary : (o : UnaryOp) (p : ℕ) (x : Expr) → Form (e.Unary o p x)
  binary : (o : Operator) (a b : Expr) → Form (e.Binary o a b)
  conditional : (c a b : Expr) → Form (e.Conditional c a b)

form_of : (y : Expr-F Expr) → Form (roll-Expr y)
unfolding roll-Expr roll
form_of (Expr-F.Literal x) = literal x
form_of (Expr-F.Name n) = name n
form_of (Expr-F.Select n high low) = select n high low
form_of (Expr-F.Index n x) = index n x
form_of (Expr-F.Call n p xs) = call n p xs
form_of (Expr-F.Tie w p xs) = tie w p xs
form_of (Expr-F.Paren p x) = paren p x
form_of (Expr-F.Concat p xs) = concat p xs
form_of (Expr-F.Repeat p n q x) = repeat p n q x
form_of (Expr-F.Unary o p x) = unary o p x
form_of (Expr-F.Binary o a b) = binary o a b
form_of (Expr-F.Conditional c a b) = conditional c a b

pub form : (x : Expr) → Form x
form x = subst Form (roll-out-Expr x) (form_of (out-Expr x))
