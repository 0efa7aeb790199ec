-- What is built for an operator means the operator.
use Rattle.std.proofs.Common.{◌≡◌, ℕ, Bool, true, false, ◌&&◌, ◌||◌, not, ◌==◌, nat_lt, nat_le, bit_and, bit_or, List, refl, ap, ◌∙◌, arith}
use Rattle.std.proofs.Math.Path.{fun_ext}
use Rattle.std.proofs.lemmas.Bool.Decides.{nat_tests}
use Rattle.tie_expr.specs.Word.{Word}
use Rattle.tie_expr.specs.Meaning.{Meaning as Typed, one_meaning, two_meaning}
use Rattle.tie_expr.specs.Operators.{bit}
use Rattle.tie_expr.specs.declared.ops.Op1.TheVariants as one
use Rattle.tie_expr.specs.declared.ops.Op2.TheVariants as two
use Rattle.tie_grammar.specs.declared.tree.BinaryOp.TheVariants as op
use Rattle.tie_mean.specs.Values.{holds}
use Rattle.tie_translate.specs.Translation.{binary_typed, widened}

pub same_at : (n : ℕ) (f g : List Word → ℕ) → ((inputs : List Word) → f inputs ≡ g inputs)
    → (let m : Typed = record { width = n; at = f } in m) ≡ (let m : Typed = record { width = n; at = g } in m)
same_at n f g h = let make : (List Word → ℕ) → Typed = λ k. record { width = n; at = k } in ap make (fun_ext h)

negated : (t : Bool) → bit (bit t == 0) ≡ bit (not t)
negated true = refl
negated false = refl

both_bits : (s t : Bool) → bit_and (bit s) (bit t) ≡ bit (s && t)
both_bits true true = refl
both_bits true false = refl
both_bits false true = refl
both_bits false false = refl

either_bits : (s t : Bool) → bit_or (bit s) (bit t) ≡ bit (s || t)
either_bits true true = refl
either_bits true false = refl
either_bits false true = refl
either_bits false false = refl

le_is : (x y : ℕ) → not (nat_lt y x) ≡ nat_le x y
le_is x y = grind (arith, nat_tests)

pub not_equal_is : (n : ℕ) (a b e o : Typed) → e ≡ two_meaning two.Eq a b → o ≡ one_meaning one.IsZero e → widened o n ≡ binary_typed op.NotEqual n a b
not_equal_is n a b e o is_e is_o =
    ap (λ (m : Typed). widened m n) (is_o ∙ ap (one_meaning one.IsZero) is_e)
    ∙ same_at n (λ i. bit (bit (a.at i == b.at i) == 0)) (λ i. bit (not (a.at i == b.at i))) (λ i. negated (a.at i == b.at i))

pub at_most_is : (n : ℕ) (a b e o : Typed) → e ≡ two_meaning two.Lt b a → o ≡ one_meaning one.IsZero e → widened o n ≡ binary_typed op.LessEqual n a b
at_most_is n a b e o is_e is_o =
    ap (λ (m : Typed). widened m n) (is_o ∙ ap (one_meaning one.IsZero) is_e)
    ∙ same_at n (λ i. bit (bit (nat_lt (b.at i) (a.at i)) == 0)) (λ i. bit (nat_le (a.at i) (b.at i))) (λ i. negated (nat_lt (b.at i) (a.at i)) ∙ ap bit (le_is (a.at i) (b.at i)))

pub both_is : (n : ℕ) (a b p q r : Typed) → p ≡ one_meaning one.OrAll a → q ≡ one_meaning one.OrAll b → r ≡ two_meaning two.And p q → widened r n ≡ binary_typed op.LogicalAnd n a b
both_is n a b p q r is_p is_q is_r =
    ap (λ (m : Typed). widened m n) (is_r ∙ ap (λ (m : Typed). two_meaning two.And m q) is_p ∙ ap (λ (m : Typed). two_meaning two.And (one_meaning one.OrAll a) m) is_q)
    ∙ same_at n (λ i. bit_and (bit (holds (a.at i))) (bit (holds (b.at i)))) (λ i. bit (holds (a.at i) && holds (b.at i))) (λ i. both_bits (holds (a.at i)) (holds (b.at i)))

pub either_is : (n : ℕ) (a b p q r : Typed) → p ≡ one_meaning one.OrAll a → q ≡ one_meaning one.OrAll b → r ≡ two_meaning two.Or p q → widened r n ≡ binary_typed op.LogicalOr n a b
either_is n a b p q r is_p is_q is_r =
    ap (λ (m : Typed). widened m n) (is_r ∙ ap (λ (m : Typed). two_meaning two.Or m q) is_p ∙ ap (λ (m : Typed). two_meaning two.Or (one_meaning one.OrAll a) m) is_q)
    ∙ same_at n (λ i. bit_or (bit (holds (a.at i))) (bit (holds (b.at i)))) (λ i. bit (holds (a.at i) || holds (b.at i))) (λ i. either_bits (holds (a.at i)) (holds (b.at i)))
