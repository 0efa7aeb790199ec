-- The parts of each form.
use Rattle.std.proofs.Common.{◌≡◌, ℕ, List, [], ◌∷◌, ◌++◌, refl, ap, ◌∙◌}
use Rattle.std.specs.List.{flat_map}
use denote.Hole.Carrier.{hidden}
use Rattle.tie_grammar.specs.declared.symbol.Leaf.{Leaf}
use Rattle.tie_grammar.specs.declared.symbol.TieWord.{TieWord}
use Rattle.tie_grammar.specs.declared.tree.UnaryOp.{UnaryOp}
use Rattle.tie_grammar.specs.declared.tree.Operator.{Operator}
use Rattle.tie_grammar.specs.declared.tree.Expr.{Expr, Row_of-Expr, more_of-Expr, end_of-Expr, items-the_row-Expr, items_hidden-the_row-Expr-1}
use Rattle.tie_grammar.specs.declared.tree.Expr.TheVariants as e
use Rattle.tie_grammar.specs.declared.tree.Expr.TheBlock.{hidden-the_row-Expr-0, hidden-the_row-Expr-1}
use Rattle.std.proofs.lemmas.Grind.{flat_map-append}
use Rattle.tie_rules.specs.Parts.{below, row_parts, parts, at_parts}

row_is : {n : _} (row : Row_of-Expr n) → row_parts row ≡ flat_map parts (items-the_row-Expr _ row)
row_is end_of-Expr = refl
row_is (more_of-Expr x row) = ap (λ z. (x ∷ below x) ++ z) (row_is row)

list_is : (xs : List Expr) → row_parts (hidden-the_row-Expr-1 xs) ≡ flat_map parts xs
list_is xs = row_is (hidden-the_row-Expr-1 xs) ∙ ap (flat_map parts) (items_hidden-the_row-Expr-1 xs)

pub below-Index : (n : Leaf) (x : Expr) → below (e.Index n x) ≡ parts x
unfolding hidden-the_row-Expr-0 hidden
below-Index n x = refl

pub below-Call : (n : Leaf) (p : ℕ) (xs : List Expr) → below (e.Call n p xs) ≡ flat_map parts xs
below-Call n p xs = list_is xs

pub below-Tie : (w : TieWord) (p : ℕ) (xs : List Expr) → below (e.Tie w p xs) ≡ flat_map parts xs
below-Tie w p xs = list_is xs

pub below-Paren : (p : ℕ) (x : Expr) → below (e.Paren p x) ≡ parts x
unfolding hidden-the_row-Expr-0 hidden
below-Paren p x = refl

pub below-Concat : (p : ℕ) (xs : List Expr) → below (e.Concat p xs) ≡ flat_map parts xs
below-Concat p xs = list_is xs

pub below-Repeat : (p : ℕ) (n : Leaf) (q : ℕ) (x : Expr) → below (e.Repeat p n q x) ≡ parts x
unfolding hidden-the_row-Expr-0 hidden
below-Repeat p n q x = refl

pub below-Unary : (o : UnaryOp) (p : ℕ) (x : Expr) → below (e.Unary o p x) ≡ parts x
unfolding hidden-the_row-Expr-0 hidden
below-Unary o p x = refl

pub below-Binary : (o : Operator) (a b : Expr) → below (e.Binary o a b) ≡ parts a ++ parts b
unfolding hidden-the_row-Expr-0 hidden
below-Binary o a b = refl

pub below-Conditional : (c a b : Expr) → below (e.Conditional c a b) ≡ parts c ++ (parts a ++ parts b)
unfolding hidden-the_row-Expr-0 hidden
below-Conditional c a b = refl

pub at_all_parts : (here : Expr → List ℕ) (xs : List Expr) → flat_map here (flat_map parts xs) ≡ flat_map (at_parts here) xs
at_all_parts here [] = refl
at_all_parts here (x ∷ xs) = flat_map-append here (parts x) (flat_map parts xs) ∙ ap (λ z. at_parts here x ++ z) (at_all_parts here xs)
