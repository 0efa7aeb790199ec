-- The numbers of core instructions have 32 bits.
use Rattle.std.proofs.Common.{◌≡◌, ℕ, zero, suc, ◌≤◌, ◌<◌, ◌^◌, Bool, true, false, ℤ, pos, negsuc, List, [], ◌∷◌, length, refl, arith, ap}
use Rattle.std.specs.Prelude.{◌||◌, nat_lt, nat_le, FitsSigned, slice_index_or, unsigned_abs}
use Rattle.std.specs.Int.{w32}
use Rattle.std.specs.List.{list_any, list_all}
use Rattle.std.specs.Ordering.{int_eq}
use Rattle.std.proofs.lemmas.Bool.Decides.{nat_tests}
use Rattle.std.proofs.lemmas.Int.{fits_signed_from_abs}
use Rattle.xt_isa.specs.Constants.{constants, unsigned_constants}
use Rattle.xt_mnemonics.specs.declared.mnemonic.Mnemonic.{Mnemonic}
use Rattle.xt_mnemonics.specs.declared.mnemonic.Mnemonic.TheVariants as mnemonic
use Rattle.xt_mnemonics.specs.declared.shape.Way.{Way}
use Rattle.xt_mnemonics.specs.declared.shape.Way.TheVariants as way
use Rattle.xt_mnemonics.specs.declared.shape.Shape.{Shape}
use Rattle.xt_mnemonics.specs.declared.shape.Shape.TheVariants as shape
use Rattle.xt_mnemonics.specs.Shapes.{shapes, step, is_multiple, is_between, is_signed, is_backward, in_reach, is_constant, is_unsigned_constant, fits_shape, EachFits, AllFit}
use Rattle.xt_mnemonics.specs.Build.{number_at}
use Rattle.xt_asm.proofs.Fine.{both}

-- a shape whose numbers have 32 bits
abbrev is_small : Shape → Bool
is_small (shape.Between low high c) = nat_lt high (2 ^ 31)
is_small (shape.Signed half c) = nat_lt half (2 ^ 31)
is_small _ = true

below : (a b : ℕ) → nat_lt a b ≡ true → a < b
below a b h = grind (arith, nat_tests)

within : (a b : ℕ) → nat_le a b ≡ true → a ≤ b
within a b h = grind (arith, nat_tests)

between_small : (low high : ℕ) (z : ℤ) → high < 2 ^ 31 → is_between low high z ≡ true → unsigned_abs z < 2 ^ 31
between_small low high (pos n) h e = let k = within n high (both (nat_le low n) (nat_le n high) e).1 in omega arith
between_small low high (negsuc n) h e = absurd cc

signed_small : (half : ℕ) (z : ℤ) → half < 2 ^ 31 → is_signed half z ≡ true → unsigned_abs z < 2 ^ 31
signed_small half (pos n) h e = let k = below n half e in omega arith
signed_small half (negsuc n) h e = let k = below n half e in omega arith

backward_small : (far : ℕ) (z : ℤ) → far < 2 ^ 31 → is_backward far z ≡ true → unsigned_abs z < 2 ^ 31
backward_small far (pos n) h e = absurd cc
backward_small far (negsuc n) h e = let k = below n far e in omega arith

same_abs : (a b : ℤ) → int_eq a b ≡ true → unsigned_abs a ≡ unsigned_abs b
same_abs (pos a) (pos b) e = grind (arith, nat_tests)
same_abs (pos a) (negsuc b) e = absurd cc
same_abs (negsuc a) (pos b) e = absurd cc
same_abs (negsuc a) (negsuc b) e = let k : a ≡ b = grind (arith, nat_tests) in ap suc k

listed_small : (z : ℤ) (cs : List ℤ) → list_all (λ c. nat_lt (unsigned_abs c) (2 ^ 31)) cs ≡ true → list_any (λ c. int_eq c z) cs ≡ true → unsigned_abs z < 2 ^ 31
listed_small z [] h e = absurd cc
listed_small z (c ∷ cs) h e =
    let k = both (nat_lt (unsigned_abs c) (2 ^ 31)) (list_all (λ c. nat_lt (unsigned_abs c) (2 ^ 31)) cs) h in
    by (int_eq c z) refl (below (unsigned_abs c) (2 ^ 31) k.0) (listed_small z cs k.1) e
  where
    by : (b : Bool) → int_eq c z ≡ b → unsigned_abs c < 2 ^ 31 → (list_any (λ c. int_eq c z) cs ≡ true → unsigned_abs z < 2 ^ 31) → (b || list_any (λ c. int_eq c z) cs) ≡ true → unsigned_abs z < 2 ^ 31
    by true i k again e = let s = same_abs c z i in omega arith
    by false i k again e = again e

reach_small : (w : Way) (z : ℤ) → in_reach w z ≡ true → unsigned_abs z < 2 ^ 31
reach_small way.Near z e = signed_small 128 z (omega arith) e
reach_small way.Far z e = signed_small 2048 z (omega arith) e
reach_small way.Jump z e = signed_small 131072 z (omega arith) e
reach_small way.Call z e = signed_small 524288 z (omega arith) (both (is_signed 524288 z) (is_multiple 4 z) e).0
reach_small way.Load z e = backward_small 262144 z (omega arith) (both (is_backward 262144 z) (is_multiple 4 z) e).0

shape_small : (s : Shape) (z : ℤ) → is_small s ≡ true → fits_shape s z ≡ true → unsigned_abs z < 2 ^ 31
unfolding is_constant is_unsigned_constant
shape_small shape.Register z h e = between_small 0 15 z (omega arith) e
shape_small (shape.Between low high c) z h e = between_small low high z (below high (2 ^ 31) h) (both (is_between low high z) (is_multiple (step c) z) e).0
shape_small (shape.Signed half c) z h e = signed_small half z (below half (2 ^ 31) h) (both (is_signed half z) (is_multiple (step c) z) e).0
shape_small shape.Constant z h e = listed_small z constants refl e
shape_small shape.UnsignedConstant z h e = listed_small z unsigned_constants refl e
shape_small (shape.Target w) z h e = reach_small w z e

all_small : (m : Mnemonic) → list_all is_small (shapes m) ≡ true
all_small mnemonic.And = refl
all_small mnemonic.Or = refl
all_small mnemonic.Xor = refl
all_small mnemonic.Add = refl
all_small mnemonic.Addx2 = refl
all_small mnemonic.Addx4 = refl
all_small mnemonic.Addx8 = refl
all_small mnemonic.Sub = refl
all_small mnemonic.Subx2 = refl
all_small mnemonic.Subx4 = refl
all_small mnemonic.Subx8 = refl
all_small mnemonic.Neg = refl
all_small mnemonic.Abs = refl
all_small mnemonic.Ssr = refl
all_small mnemonic.Ssl = refl
all_small mnemonic.Ssai = refl
all_small mnemonic.Ret = refl
all_small mnemonic.Jx = refl
all_small mnemonic.Callx0 = refl
all_small mnemonic.Nop = refl
all_small mnemonic.Simcall = refl
all_small mnemonic.Slli = refl
all_small mnemonic.Srai = refl
all_small mnemonic.Srli = refl
all_small mnemonic.Src = refl
all_small mnemonic.Srl = refl
all_small mnemonic.Sll = refl
all_small mnemonic.Sra = refl
all_small mnemonic.Mul16u = refl
all_small mnemonic.Mul16s = refl
all_small mnemonic.Mull = refl
all_small mnemonic.Sext = refl
all_small mnemonic.Min = refl
all_small mnemonic.Max = refl
all_small mnemonic.Minu = refl
all_small mnemonic.Maxu = refl
all_small mnemonic.Moveqz = refl
all_small mnemonic.Movnez = refl
all_small mnemonic.Movltz = refl
all_small mnemonic.Movgez = refl
all_small mnemonic.Extui = refl
all_small mnemonic.L32r = refl
all_small mnemonic.L8ui = refl
all_small mnemonic.L16ui = refl
all_small mnemonic.L32i = refl
all_small mnemonic.L16si = refl
all_small mnemonic.S8i = refl
all_small mnemonic.S16i = refl
all_small mnemonic.S32i = refl
all_small mnemonic.Movi = refl
all_small mnemonic.Addi = refl
all_small mnemonic.Addmi = refl
all_small mnemonic.Call0 = refl
all_small mnemonic.J = refl
all_small mnemonic.Beqz = refl
all_small mnemonic.Bnez = refl
all_small mnemonic.Bltz = refl
all_small mnemonic.Bgez = refl
all_small mnemonic.Beqi = refl
all_small mnemonic.Bnei = refl
all_small mnemonic.Blti = refl
all_small mnemonic.Bgei = refl
all_small mnemonic.Bltui = refl
all_small mnemonic.Bgeui = refl
all_small mnemonic.Bnone = refl
all_small mnemonic.Beq = refl
all_small mnemonic.Blt = refl
all_small mnemonic.Bltu = refl
all_small mnemonic.Ball = refl
all_small mnemonic.Bbc = refl
all_small mnemonic.Bany = refl
all_small mnemonic.Bne = refl
all_small mnemonic.Bge = refl
all_small mnemonic.Bgeu = refl
all_small mnemonic.Bnall = refl
all_small mnemonic.Bbs = refl
all_small mnemonic.Bbci = refl
all_small mnemonic.Bbsi = refl

each_small : (ss : List Shape) (zs : List ℤ) (i : ℕ) → list_all is_small ss ≡ true → length ss ≡ length zs → EachFits ss zs → unsigned_abs (slice_index_or zs i (pos 0)) < 2 ^ 31
each_small [] [] zero h n f = omega arith
each_small [] [] (suc i) h n f = omega arith
each_small [] (z ∷ zs) i h n f = absurd (omega arith)
each_small (s ∷ ss) [] i h n f = absurd (omega arith)
each_small (s ∷ ss) (z ∷ zs) zero h n f = shape_small s z (both (is_small s) (list_all is_small ss) h).0 f.0
each_small (s ∷ ss) (z ∷ zs) (suc i) h n f = each_small ss zs i (both (is_small s) (list_all is_small ss) h).1 (omega arith) f.1

-- operands that fit have 32 bits
pub numbers_small : (m : Mnemonic) (zs : List ℤ) (i : ℕ) → AllFit (shapes m) zs → FitsSigned w32 (number_at zs i)
numbers_small m zs i f = fits_signed_from_abs w32 (number_at zs i) (each_small (shapes m) zs i (all_small m) f.0 f.1)
