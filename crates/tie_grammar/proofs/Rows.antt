-- Rows of the grammar.
use Rattle.std.proofs.Common.{◌≡◌, ℕ, [], ◌∷◌, None, refl, arith, codes}
use Rattle.tie_grammar.specs.declared.symbol.Leaf.{Leaf}
use Rattle.tie_grammar.specs.declared.symbol.Mark.TheVariants as m
use Rattle.tie_grammar.specs.declared.symbol.Symbol.TheVariants as s
use Rattle.tie_grammar.specs.declared.tree.BinaryOp.TheVariants as op
use Rattle.tie_grammar.specs.declared.tree.Operator.{Operator}
use Rattle.tie_grammar.specs.declared.tree.Expr.{Expr}
use Rattle.tie_grammar.specs.declared.tree.Expr.TheVariants as e
use Rattle.tie_grammar.specs.declared.tree.Item.TheVariants as i
use Rattle.tie_grammar.specs.declared.tree.Decl.TheVariants as d
use Rattle.tie_grammar.specs.Spelling.{tree, Groups}
use Rattle.tie_grammar.proofs.Shapes.{parts-Binary, groups-Binary}

abbrev leaf : ℕ → Leaf
leaf place = record { bytes = codes "a"; place = place }

abbrev minus : ℕ → Operator
minus place = record { op = op.Subtract; place = place }

-- `function a () { assign a = a; }`
function_row : tree (record { declarations = d.Function (record { range = None; name = leaf 9; paren = 11; parameters = []; brace = 14; items = i.Assign (leaf 23) (e.Name (leaf 27)) ∷ [] }) ∷ [] })
    ≡ s.Mark m.Function ∷ s.Name (leaf 9) ∷ s.Paren 11 ∷ s.Mark m.EndParen ∷ s.Brace 14 ∷ s.Mark m.Assign ∷ s.Name (leaf 23) ∷ s.Mark m.Equals ∷ s.Name (leaf 27) ∷ s.Mark m.Semicolon ∷ s.Mark m.EndBrace ∷ []
function_row = refl

-- `a - a - a` is spelled by either grouping, and only the one to the left is in the grammar
abbrev to_left : Expr
to_left = e.Binary (minus 6) (e.Binary (minus 2) (e.Name (leaf 0)) (e.Name (leaf 4))) (e.Name (leaf 8))

abbrev to_right : Expr
to_right = e.Binary (minus 2) (e.Name (leaf 0)) (e.Binary (minus 6) (e.Name (leaf 4)) (e.Name (leaf 8)))

left_row : Groups to_left
left_row = groups-Binary (minus 6) (e.Binary (minus 2) (e.Name (leaf 0)) (e.Name (leaf 4))) (e.Name (leaf 8)) (omega arith) (omega arith)
    (groups-Binary (minus 2) (e.Name (leaf 0)) (e.Name (leaf 4)) (omega arith) (omega arith) tt tt) tt

right_row : Groups to_right → ⊥
right_row h = let p = parts-Binary (minus 2) (e.Name (leaf 0)) (e.Binary (minus 6) (e.Name (leaf 4)) (e.Name (leaf 8))) h in omega (arith, p.1)
