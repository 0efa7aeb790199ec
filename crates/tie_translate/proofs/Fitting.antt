-- The sides of an operator fit it once they are brought to their sizes.
use Rattle.std.proofs.Common.{◌≡◌, ℕ, subst, sym, refl}
use Rattle.tie_grammar.specs.declared.tree.BinaryOp.{BinaryOp}
use Rattle.tie_grammar.specs.declared.tree.BinaryOp.TheVariants as op
use Rattle.tie_grammar.specs.declared.tree.UnaryOp.{UnaryOp}
use Rattle.tie_grammar.specs.declared.tree.UnaryOp.TheVariants as unary
use Rattle.tie_mean.specs.Values.{left_side, right_side, unary_side}
use Rattle.tie_translate.specs.Translation.{Fit, UnaryFit}

sides_fit : (o : BinaryOp) (n a b : ℕ) → Fit o n (left_side o n a b) (right_side o n a b)
sides_fit op.LogicalOr n a b = tt
sides_fit op.LogicalAnd n a b = tt
sides_fit op.Or n a b = (refl, refl)
sides_fit op.Xor n a b = (refl, refl)
sides_fit op.And n a b = (refl, refl)
sides_fit op.Equal n a b = refl
sides_fit op.NotEqual n a b = refl
sides_fit op.Less n a b = refl
sides_fit op.LessEqual n a b = refl
sides_fit op.Greater n a b = refl
sides_fit op.GreaterEqual n a b = refl
sides_fit op.ShiftLeft n a b = refl
sides_fit op.ShiftRight n a b = refl
sides_fit op.Add n a b = (refl, refl)
sides_fit op.Subtract n a b = (refl, refl)
sides_fit op.Multiply n a b = (refl, refl)

pub fit_from : (o : BinaryOp) (n a b l r : ℕ) → l ≡ left_side o n a b → r ≡ right_side o n a b → Fit o n l r
fit_from o n a b l r is_l is_r =
    let P : ℕ → Type 0 = λ k. Fit o n k r in
    let Q : ℕ → Type 0 = λ k. Fit o n (left_side o n a b) k in
    subst P (sym is_l) (subst Q (sym is_r) (sides_fit o n a b))

side_fits : (o : UnaryOp) (n a : ℕ) → UnaryFit o n (unary_side o n a)
side_fits unary.Not n a = refl
side_fits unary.LogicalNot n a = tt
side_fits unary.ReduceAnd n a = tt
side_fits unary.ReduceOr n a = tt
side_fits unary.ReduceXor n a = tt

pub side_fit_from : (o : UnaryOp) (n a w : ℕ) → w ≡ unary_side o n a → UnaryFit o n w
side_fit_from o n a w is = let P : ℕ → Type 0 = λ k. UnaryFit o n k in subst P (sym is) (side_fits o n a)
