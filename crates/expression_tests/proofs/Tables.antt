-- What the tests' small tables owe to the constructors.
use Rattle.std.proofs.Common.{◌≡◌, ℕ, zero, suc, ◌<◌, ◌≤◌, IsTrue, [], ◌∷◌, refl, arith}
use Rattle.std.specs.List.{All}
use Rattle.std.proofs.lemmas.Bool.{eq-eqb}
use Rattle.tie_expr.specs.Operators.{two_widths_agree}
use Rattle.tie_expr.specs.Meaning.{Meaning, OneWidth}
use Rattle.tie_expr.specs.Size.{one_weight, two_weight}
use Rattle.tie_expr.specs.declared.ops.Op1.{Op1}
use Rattle.tie_expr.specs.declared.ops.Op1.TheVariants as one
use Rattle.tie_expr.specs.declared.ops.Op2.{Op2}
use Rattle.tie_expr.specs.declared.ops.Op2.TheVariants as two

pub one_weight_most : (op : Op1) → one_weight op ≤ 60
one_weight_most one.XorAll = omega arith
one_weight_most one.Not = omega arith
one_weight_most one.IsZero = omega arith
one_weight_most one.AndAll = omega arith
one_weight_most one.OrAll = omega arith

pub two_weight_most : (op : Op2) → two_weight op ≤ 60
two_weight_most two.Shl = omega arith
two_weight_most two.Shr = omega arith
two_weight_most _ = omega arith

-- equal widths go together for each operator
pub two_widths_agree_same : (op : Op2) (w v : ℕ) → w ≡ v → IsTrue (two_widths_agree op w v)
two_widths_agree_same two.Shl w v same = refl
two_widths_agree_same two.Shr w v same = refl
two_widths_agree_same _ w v same = eq-eqb w v same

pub ruleset two_rows = (two_weight_most, two_widths_agree_same)

pub three_fit : (n a b c : ℕ) → a < n → b < n → c < n → All (λ x. x < n) (a ∷ b ∷ c ∷ [])
three_fit n a b c p q r zero d h = p
three_fit n a b c p q r (suc zero) d h = q
three_fit n a b c p q r (suc (suc zero)) d h = r
three_fit n a b c p q r (suc (suc (suc k))) d h = absurd (omega arith)

pub two_arms : (a b : Meaning) → b.width ≡ a.width → OneWidth (a ∷ b ∷ [])
two_arms a b same zero d h = refl
two_arms a b same (suc zero) d h = same
two_arms a b same (suc (suc k)) d h = absurd (omega arith)
