-- Sizes of forms, from their parts.
use Rattle.std.proofs.Common.{◌≡◌, ℕ, zero, suc, ◌*◌, ◌<◌, List, [], ◌∷◌, length, get_or, slice_index, arith, rules, sym, ap, ◌∙◌}
use Rattle.tie_grammar.specs.declared.symbol.Leaf.{Leaf}
use Rattle.tie_grammar.specs.declared.tree.Expr.{Expr}
use Rattle.tie_grammar.specs.declared.tree.Expr.TheVariants as form
use Rattle.tie_grammar.specs.declared.tree.Expr.TheFolds.{the_lemmas}
use Rattle.tie_mean.specs.Scope.{Widths}
use Rattle.tie_mean.specs.Sizes.{bounded, limited}
use Rattle.tie_mean.specs.Values.{size, sizes}
use Rattle.tie_mean.proofs.Limits.{limited_repeat}

is_repeat : (w : Widths) (p : ℕ) (n : Leaf) (q : ℕ) (x : Expr) → size w (form.Repeat p n q x) ≡ bounded n * size w x
is_repeat w p n q x = search (rules, the_lemmas)

pub repeat_size : (w : Widths) (p : ℕ) (n : Leaf) (q : ℕ) (x y : Expr) (s r : ℕ) → r ≡ limited (bounded n * s) → s ≡ limited (size w y) → y ≡ x
    → r ≡ limited (size w (form.Repeat p n q x))
repeat_size w p n q x y s r is part same =
    is ∙ ap (λ k. limited (bounded n * k)) part ∙ limited_repeat (bounded n) (size w y) ∙ ap (λ z. limited (bounded n * size w z)) same
    ∙ sym (ap limited (is_repeat w p n q x))

-- the size of a part
pub size_there : (w : Widths) (xs : List Expr) (i : ℕ) (x : Expr) → i < length xs → x ≡ get_or xs i x → size w x ≡ slice_index (sizes w xs) i
size_there w [] i x h e = absurd (omega arith)
size_there w (y ∷ ys) zero x h e = ap (size w) e
size_there w (y ∷ ys) (suc i) x h e = size_there w ys i x (omega arith) e
