-- TIE functions that break no rule have right sizes, where their arguments have.
use Rattle.std.proofs.Common.{◌≡◌, ℕ, ◌+◌, ◌^◌, ◌≤◌, true, ◌&&◌, nat_le, ◌==◌, List, [], ◌∷◌, map, length, sym, subst, arith, slice_get}
use Rattle.std.specs.List.{AllByRecursion}
use Rattle.std.proofs.lemmas.List.{length-map}
use Rattle.std.proofs.lemmas.Bool.{and_from, eqb-true}
use Rattle.tie_mean.specs.Scope.{Widths}
use Rattle.tie_mean.specs.Sizes.{tie_size}
use Rattle.tie_mean.specs.Values.{meaning, size, form, all_sized, sizes_of, tie_sized, part_at}
use Rattle.tie_mean.proofs.Layers.{tie_is}
use Rattle.tie_grammar.specs.declared.symbol.TieWord.{TieWord}
use Rattle.tie_grammar.specs.declared.symbol.TieFunction.{TieFunction}
use Rattle.tie_grammar.specs.declared.symbol.TieFunction.TheVariants as tie
use Rattle.tie_grammar.specs.declared.tree.Decl.{Decl}
use Rattle.tie_grammar.specs.declared.tree.Tree.{Tree}
use Rattle.tie_grammar.specs.declared.tree.Expr.{Expr}
use Rattle.tie_grammar.specs.declared.tree.Expr.TheVariants as e
use Rattle.tie_grammar.specs.declared.tree.Expr.TheOpen.{Expr-F}
use Rattle.tie_rules.specs.Least.{NoPlace}
use Rattle.tie_rules.specs.Bodies.{takes, arg_count_form, fits_arms, fits_sizes, size_of, arg_size_form}
use Rattle.tie_sizes_law.proofs.Places.{holds}
use Rattle.tie_sizes_law.proofs.Out.{out-Tie}
use Rattle.tie_sizes_law.proofs.Forms.{IsSized, IsClean, made, all_are_sized}

-- what a form of a TIE function needs
pub record IsRight (w : Widths) (o : TieFunction) (xs : List Expr) : Type 0 where
  pub low : 1 ≤ tie_size o (sizes_of (map (meaning w) xs))
  pub sized : tie_sized o (map (meaning w) xs) ≡ true

three : (w : Widths) (o : TieFunction) (xs : List Expr) → length xs ≡ 3 → (size_of w (slice_get xs 2) == 1) ≡ true → AllByRecursion (IsSized w) xs
    → (all_sized (map (meaning w) xs) && (length (map (meaning w) xs) == 3 && (part_at (map (meaning w) xs) 2).size == 1)) ≡ true
three w o [] len one h = absurd (omega arith)
three w o (a ∷ []) len one h = absurd (omega arith)
three w o (a ∷ b ∷ []) len one h = absurd (omega arith)
three w o (a ∷ b ∷ c ∷ []) len one h = and_from (all_sized (map (meaning w) (a ∷ b ∷ c ∷ []))) (size w c == 1) (all_are_sized w (a ∷ b ∷ c ∷ []) h) one
three w o (a ∷ b ∷ c ∷ d ∷ xs) len one h = absurd (omega arith)

add_low : (w : Widths) (xs : List Expr) → length xs ≡ 3 → AllByRecursion (IsSized w) xs → 1 ≤ tie_size tie.Add (sizes_of (map (meaning w) xs))
add_low w [] len h = absurd (omega arith)
add_low w (a ∷ []) len h = absurd (omega arith)
add_low w (a ∷ b ∷ xs) len h = omega (arith, h.0.low)

mul_low : (w : Widths) (xs : List Expr) → length xs ≡ 3 → AllByRecursion (IsSized w) xs → 1 ≤ tie_size tie.Mul (sizes_of (map (meaning w) xs))
mul_low w [] len h = absurd (omega arith)
mul_low w (a ∷ []) len h = absurd (omega arith)
mul_low w (a ∷ b ∷ xs) len h = omega (arith, h.0.low)

mux_low : (w : Widths) (xs : List Expr) → takes tie.Mux (length xs) ≡ true → AllByRecursion (IsSized w) xs → 1 ≤ tie_size tie.Mux (sizes_of (map (meaning w) xs))
mux_low w [] len h = absurd cc
mux_low w (a ∷ []) len h = absurd cc
mux_low w (a ∷ b ∷ xs) len h = omega (arith, h.1.0.low)

mux_sized : (w : Widths) (xs : List Expr) → takes tie.Mux (length xs) ≡ true → fits_arms (size_of w (slice_get xs 0)) (length xs) ≡ true → AllByRecursion (IsSized w) xs
    → tie_sized tie.Mux (map (meaning w) xs) ≡ true
mux_sized w [] len fits h = absurd cc
mux_sized w (a ∷ xs) len fits h =
    and_from (all_sized (map (meaning w) (a ∷ xs))) (nat_le (size w a) 4 && length (map (meaning w) (a ∷ xs)) == 2 ^ size w a + 1) (all_are_sized w (a ∷ xs) h)
    (subst (λ k. (nat_le (size w a) 4 && k == 2 ^ size w a + 1) ≡ true) (sym (length-map (a ∷ xs) (meaning w))) fits)

right : (w : Widths) (o : TieFunction) (xs : List Expr) → takes o (length xs) ≡ true → fits_sizes w o xs ≡ true → AllByRecursion (IsSized w) xs → IsRight w o xs
right w tie.Add xs count fits h =
    let len : length xs ≡ 3 = eqb-true (length xs) 3 count in
    record { low = add_low w xs len h; sized = three w tie.Add xs len fits h }
right w tie.Mul xs count fits h =
    let len : length xs ≡ 3 = eqb-true (length xs) 3 count in
    record { low = mul_low w xs len h; sized = three w tie.Mul xs len fits h }
right w tie.Mux xs count fits h = record { low = mux_low w xs count h; sized = mux_sized w xs count fits h }

pub sized-Tie : (t : Tree) (decl : Decl) (w : Widths) (o : TieWord) (p : ℕ) (xs : List Expr) → IsClean t decl w (e.Tie o p xs) → AllByRecursion (IsSized w) xs → IsSized w (e.Tie o p xs)
sized-Tie t decl w o p xs h parts =
    let count = holds (takes o.function (length xs)) o.place (subst (λ y. NoPlace (arg_count_form t y)) (out-Tie o p xs) h.counts) in
    let fits = holds (fits_sizes w o.function xs) o.place (subst (λ y. NoPlace (arg_size_form w y)) (out-Tie o p xs) h.arguments) in
    let ok = right w o.function xs count fits parts in
    made w (e.Tie o p xs) (form w (Expr-F.Tie o p (map (meaning w) xs))) (tie_is w o p xs) ok.low ok.sized h.sizes
