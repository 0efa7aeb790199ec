-- A sized expression has a size from 1 to 128.
use Rattle.std.proofs.Common.{◌≡◌, ℕ, ◌≤◌, ◌<◌, IsTrue, nat_lt, nat_le, sym, subst, rules}
use Rattle.std.proofs.lemmas.Bool.{and_parts, leb-true, ltb-true}
use Rattle.tie_grammar.specs.declared.tree.Expr.{Expr, out-Expr}
use Rattle.tie_grammar.specs.declared.tree.Expr.TheFolds.{the_lemmas, map-Expr}
use Rattle.tie_mean.specs.Literals.{is_width}
use Rattle.tie_mean.specs.Scope.{Widths}
use Rattle.tie_mean.specs.Values.{Meaning, meaning, meaning_step, within, form, size}

pub record HasWidth (n : ℕ) : Type 0 where
  pub low : 0 < n
  pub high : n ≤ 128

pub has_width : (n : ℕ) → IsTrue (is_width n) → HasWidth n
has_width n h =
    let p = and_parts (nat_lt 0 n) (nat_le n 128) h in
    record { low = ltb-true 0 n p.0; high = leb-true n 128 p.1 }

layer : (w : Widths) (x : Expr) → meaning w x ≡ meaning_step w (map-Expr Expr Meaning (meaning w) (out-Expr x))
layer w x = search (rules, the_lemmas)

within_width : (m : Meaning) → IsTrue (within m).sized → IsTrue (is_width (within m).size)
within_width m h = (and_parts (is_width m.size) m.sized h).0

pub sized_width : (w : Widths) (x : Expr) → IsTrue (meaning w x).sized → HasWidth (size w x)
sized_width w x h =
    let P : Meaning → Type 0 = λ m. IsTrue m.sized in
    let Q : Meaning → Type 0 = λ m. HasWidth m.size in
    subst Q (sym (layer w x)) (has_width _ (within_width (form w (map-Expr Expr Meaning (meaning w) (out-Expr x))) (subst P (layer w x) h)))

pub sized_low : (w : Widths) (x : Expr) → IsTrue (meaning w x).sized → 0 < size w x
sized_low w x h = (sized_width w x h).low

pub sized_high : (w : Widths) (x : Expr) → IsTrue (meaning w x).sized → size w x ≤ 128
sized_high w x h = (sized_width w x h).high

pub ruleset own_sizes = (sized_low, sized_high)
