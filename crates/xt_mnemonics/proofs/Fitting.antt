-- What a test of a shape says of a number, and the other way round.
use Rattle.std.proofs.Common.{◌≡◌, ℕ, ◌%◌, ◌<◌, ◌≤◌, Bool, true, false, ℤ, pos, negsuc, List, [], ◌∷◌, length, suc, refl, arith, ◌∙◌, IsTrue}
use Rattle.std.specs.Prelude.{nat_lt, nat_le, ◌&&◌, ◌||◌, ◌==◌, unsigned_abs}
use Rattle.std.specs.List.{list_any}
use Rattle.std.specs.Ordering.{int_eq}
use Rattle.std.proofs.lemmas.Bool.Decides.{nat_tests}
use Rattle.xt_isa.specs.Constants.{constants, unsigned_constants, constant_code, unsigned_code, place_of, IsConstant, IsUnsignedConstant}
use Rattle.xt_isa.specs.Numbers.{IsBetween, IsSigned, IsBackward, IsMultiple}
use Rattle.xt_mnemonics.specs.declared.shape.Scale.{Scale}
use Rattle.xt_mnemonics.specs.declared.shape.Scale.TheVariants as scale
use Rattle.xt_mnemonics.specs.declared.shape.Way.TheVariants as way
use Rattle.xt_mnemonics.specs.declared.shape.Shape.TheVariants as shape
use Rattle.xt_mnemonics.specs.Shapes.{step, is_multiple, is_between, is_signed, is_backward, in_reach, is_constant, is_unsigned_constant, fits_shape}

both : (a b : Bool) → IsTrue (a && b) → IsTrue a × IsTrue b
both true true h = (refl, refl)
both true false h = absurd cc
both false b h = absurd cc

join : (a b : Bool) → IsTrue a → IsTrue b → IsTrue (a && b)
join true b g h = h
join false b g h = absurd cc

less : (a b : ℕ) → IsTrue (nat_lt a b) → a < b
less a b h = grind (arith, nat_tests)

at_most : (a b : ℕ) → IsTrue (nat_le a b) → a ≤ b
at_most a b h = grind (arith, nat_tests)

of_less : (a b : ℕ) → a < b → IsTrue (nat_lt a b)
of_less a b h = grind (arith, nat_tests)

of_at_most : (a b : ℕ) → a ≤ b → IsTrue (nat_le a b)
of_at_most a b h = grind (arith, nat_tests)

same : (a b : ℕ) → IsTrue (a == b) → a ≡ b
same a b h = grind (arith, nat_tests)

of_same : (a b : ℕ) → a ≡ b → IsTrue (a == b)
of_same a b h = grind (arith, nat_tests)

pub low_bits : (n : ℕ) → n % 16 < 16
low_bits n = omega arith

pub register_kept : (n : ℕ) → n < 16 → n % 16 ≡ n
register_kept n h = omega arith

is_between_of : (low high : ℕ) (z : ℤ) → IsTrue (is_between low high z) → IsBetween low high z
is_between_of low high (pos n) h = let g = both (nat_le low n) (nat_le n high) h in (at_most low n g.0, at_most n high g.1)
is_between_of low high (negsuc n) h = absurd cc

of_is_between : (low high : ℕ) (z : ℤ) → IsBetween low high z → IsTrue (is_between low high z)
of_is_between low high (pos n) h = join (nat_le low n) (nat_le n high) (of_at_most low n h.0) (of_at_most n high h.1)
of_is_between low high (negsuc n) h = absurd (omega arith)

is_signed_of : (half : ℕ) (z : ℤ) → IsTrue (is_signed half z) → IsSigned half z
is_signed_of half (pos n) h = less n half h
is_signed_of half (negsuc n) h = less n half h

of_is_signed : (half : ℕ) (z : ℤ) → IsSigned half z → IsTrue (is_signed half z)
of_is_signed half (pos n) h = of_less n half h
of_is_signed half (negsuc n) h = of_less n half h

is_backward_of : (far : ℕ) (z : ℤ) → IsTrue (is_backward far z) → IsBackward far z
is_backward_of far (pos n) h = absurd cc
is_backward_of far (negsuc n) h = less n far h

of_is_backward : (far : ℕ) (z : ℤ) → IsBackward far z → IsTrue (is_backward far z)
of_is_backward far (pos n) h = absurd (omega arith)
of_is_backward far (negsuc n) h = of_less n far h

is_multiple_of : (n : ℕ) (z : ℤ) → IsTrue (is_multiple n z) → IsMultiple n z
is_multiple_of n z h = same (unsigned_abs z % n) 0 h

of_is_multiple : (n : ℕ) (z : ℤ) → IsMultiple n z → IsTrue (is_multiple n z)
of_is_multiple n z h = of_same (unsigned_abs z % n) 0 h

one : (n : ℕ) → n % 1 ≡ 0
one n = omega arith

pub register_fits : (n : ℕ) → n < 16 → IsTrue (fits_shape shape.Register (pos n))
register_fits n h = of_is_between 0 15 (pos n) (omega arith, omega arith)

pub between_of : (low high : ℕ) (z : ℤ) → IsTrue (fits_shape (shape.Between low high scale.One) z) → IsBetween low high z
between_of low high z h = is_between_of low high z (both (is_between low high z) (is_multiple 1 z) h).0

pub between_scaled_of : (low high : ℕ) (s : Scale) (z : ℤ) → IsTrue (fits_shape (shape.Between low high s) z) → IsBetween low high z × IsMultiple (step s) z
between_scaled_of low high s z h = let g = both (is_between low high z) (is_multiple (step s) z) h in (is_between_of low high z g.0, is_multiple_of (step s) z g.1)

pub signed_of : (half : ℕ) (z : ℤ) → IsTrue (fits_shape (shape.Signed half scale.One) z) → IsSigned half z
signed_of half z h = is_signed_of half z (both (is_signed half z) (is_multiple 1 z) h).0

pub signed_scaled_of : (half : ℕ) (s : Scale) (z : ℤ) → IsTrue (fits_shape (shape.Signed half s) z) → IsSigned half z × IsMultiple (step s) z
signed_scaled_of half s z h = let g = both (is_signed half z) (is_multiple (step s) z) h in (is_signed_of half z g.0, is_multiple_of (step s) z g.1)

pub of_between : (low high : ℕ) (z : ℤ) → IsBetween low high z → IsTrue (fits_shape (shape.Between low high scale.One) z)
of_between low high z h = join (is_between low high z) (is_multiple 1 z) (of_is_between low high z h) (of_is_multiple 1 z (one (unsigned_abs z)))

pub of_between_scaled : (low high : ℕ) (s : Scale) (z : ℤ) → IsBetween low high z → IsMultiple (step s) z → IsTrue (fits_shape (shape.Between low high s) z)
of_between_scaled low high s z h k = join (is_between low high z) (is_multiple (step s) z) (of_is_between low high z h) (of_is_multiple (step s) z k)

pub of_signed : (half : ℕ) (z : ℤ) → IsSigned half z → IsTrue (fits_shape (shape.Signed half scale.One) z)
of_signed half z h = join (is_signed half z) (is_multiple 1 z) (of_is_signed half z h) (of_is_multiple 1 z (one (unsigned_abs z)))

pub of_signed_scaled : (half : ℕ) (s : Scale) (z : ℤ) → IsSigned half z → IsMultiple (step s) z → IsTrue (fits_shape (shape.Signed half s) z)
of_signed_scaled half s z h k = join (is_signed half z) (is_multiple (step s) z) (of_is_signed half z h) (of_is_multiple (step s) z k)

pub near_of : (half : ℕ) (z : ℤ) → IsTrue (is_signed half z) → IsSigned half z
near_of half z h = is_signed_of half z h

pub of_near : (half : ℕ) (z : ℤ) → IsSigned half z → IsTrue (is_signed half z)
of_near half z h = of_is_signed half z h

pub call_of : (z : ℤ) → IsTrue (in_reach way.Call z) → IsSigned 524288 z × IsMultiple 4 z
call_of z h = let g = both (is_signed 524288 z) (is_multiple 4 z) h in (is_signed_of 524288 z g.0, is_multiple_of 4 z g.1)

pub of_call : (z : ℤ) → IsSigned 524288 z → IsMultiple 4 z → IsTrue (in_reach way.Call z)
of_call z h k = join (is_signed 524288 z) (is_multiple 4 z) (of_is_signed 524288 z h) (of_is_multiple 4 z k)

pub load_of : (z : ℤ) → IsTrue (in_reach way.Load z) → IsBackward 262144 z × IsMultiple 4 z
load_of z h = let g = both (is_backward 262144 z) (is_multiple 4 z) h in (is_backward_of 262144 z g.0, is_multiple_of 4 z g.1)

pub of_load : (z : ℤ) → IsBackward 262144 z → IsMultiple 4 z → IsTrue (in_reach way.Load z)
of_load z h k = join (is_backward 262144 z) (is_multiple 4 z) (of_is_backward 262144 z h) (of_is_multiple 4 z k)

-- ---- constants

same_int : (a b : ℤ) → int_eq a b ≡ int_eq b a
same_int (pos a) (pos b) = grind (arith, nat_tests)
same_int (pos a) (negsuc b) = refl
same_int (negsuc a) (pos b) = refl
same_int (negsuc a) (negsuc b) = grind (arith, nat_tests)

-- a number that stands in a list has a place within it
listed_place : (z : ℤ) (cs : List ℤ) → IsTrue (list_any (λ c. int_eq c z) cs) → place_of z cs < length cs
listed_place z [] h = absurd cc
listed_place z (c ∷ cs) h = by (int_eq c z) refl (listed_place z cs) h
  where
    by : (b : Bool) → int_eq c z ≡ b → (IsTrue (list_any (λ c. int_eq c z) cs) → place_of z cs < length cs) → IsTrue (b || list_any (λ c. int_eq c z) cs) → place_of z (c ∷ cs) < suc (length cs)
    by true e again k = rw (same_int z c ∙ e) (omega arith)
    by false e again k = rw (same_int z c ∙ e) (let m = again k in omega (arith, m))

placed_listed : (z : ℤ) (cs : List ℤ) → place_of z cs < length cs → IsTrue (list_any (λ c. int_eq c z) cs)
placed_listed z [] h = absurd (omega arith)
placed_listed z (c ∷ cs) h = by (int_eq c z) refl (placed_listed z cs)
  where
    by : (b : Bool) → int_eq c z ≡ b → (place_of z cs < length cs → IsTrue (list_any (λ c. int_eq c z) cs)) → IsTrue (b || list_any (λ c. int_eq c z) cs)
    by true e again = refl
    by false e again = again (let k = rw (same_int z c ∙ e) at h in omega (arith, k))

pub constant_of : (z : ℤ) → IsTrue (fits_shape shape.Constant z) → IsConstant z
unfolding constant_code is_constant
constant_of z h = listed_place z constants h

pub unsigned_of : (z : ℤ) → IsTrue (fits_shape shape.UnsignedConstant z) → IsUnsignedConstant z
unfolding unsigned_code is_unsigned_constant
unsigned_of z h = listed_place z unsigned_constants h

pub of_constant : (z : ℤ) → IsConstant z → IsTrue (fits_shape shape.Constant z)
unfolding constant_code is_constant
of_constant z h = placed_listed z constants h

pub of_unsigned : (z : ℤ) → IsUnsignedConstant z → IsTrue (fits_shape shape.UnsignedConstant z)
unfolding unsigned_code is_unsigned_constant
of_unsigned z h = placed_listed z unsigned_constants h
