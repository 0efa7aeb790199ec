-- What stands in the operands' places, and which numbers it may be.
use Rattle.std.specs.Prelude.{ℕ, ◌+◌, ◌-◌, ◌*◌, ◌/◌, ◌%◌, ◌^◌, Bool, false, ◌&&◌, ◌==◌, nat_lt, nat_le, ℤ, pos, negsuc, unsigned_abs, List, [], ◌∷◌, length, ◌≡◌, IsTrue}
use Rattle.std.specs.List.{list_any}
use Rattle.std.specs.Ordering.{int_eq}
use Rattle.xt_isa.specs.Constants.{constants, unsigned_constants}
use Rattle.xt_isa.specs.Numbers.{signed_value}
use Rattle.xt_mnemonics.specs.declared.mnemonic.Mnemonic.{Mnemonic}
use Rattle.xt_mnemonics.specs.declared.mnemonic.Mnemonic.TheVariants as mnemonic
use Rattle.xt_mnemonics.specs.declared.shape.Scale.{Scale}
use Rattle.xt_mnemonics.specs.declared.shape.Scale.TheVariants as scale
use Rattle.xt_mnemonics.specs.declared.shape.Way.{Way}
use Rattle.xt_mnemonics.specs.declared.shape.Way.TheVariants as way
use Rattle.xt_mnemonics.specs.declared.shape.Shape.{Shape}
use Rattle.xt_mnemonics.specs.declared.shape.Shape.TheVariants as shape

-- ---- the shapes of the operands of each mnemonic

-- no operand
abbrev pub none : List Shape
none = []

-- a register
abbrev pub one : List Shape
one = shape.Register ∷ []

-- two registers
abbrev pub two : List Shape
two = shape.Register ∷ shape.Register ∷ []

-- three registers
abbrev pub three : List Shape
three = shape.Register ∷ shape.Register ∷ shape.Register ∷ []

-- an amount of bits
abbrev pub amount : List Shape
amount = shape.Between 0 31 scale.One ∷ []

-- two registers and an amount of bits that is not 0
abbrev pub left_shift : List Shape
left_shift = shape.Register ∷ shape.Register ∷ shape.Between 1 31 scale.One ∷ []

-- two registers and an amount of bits
abbrev pub right_shift : List Shape
right_shift = shape.Register ∷ shape.Register ∷ shape.Between 0 31 scale.One ∷ []

-- two registers and an amount below 16
abbrev pub short_shift : List Shape
short_shift = shape.Register ∷ shape.Register ∷ shape.Between 0 15 scale.One ∷ []

-- two registers and the place of a sign
abbrev pub extension : List Shape
extension = shape.Register ∷ shape.Register ∷ shape.Between 7 22 scale.One ∷ []

-- two registers, a shift and a width
abbrev pub extract : List Shape
extract = shape.Register ∷ shape.Register ∷ shape.Between 0 31 scale.One ∷ shape.Between 1 16 scale.One ∷ []

-- a register and the address of a word before the pc
abbrev pub load_back : List Shape
load_back = shape.Register ∷ shape.Target way.Load ∷ []

-- two registers and an offset in bytes
abbrev pub byte_offset : List Shape
byte_offset = shape.Register ∷ shape.Register ∷ shape.Between 0 255 scale.One ∷ []

-- two registers and an offset in bytes, of a half word
abbrev pub half_offset : List Shape
half_offset = shape.Register ∷ shape.Register ∷ shape.Between 0 510 scale.Two ∷ []

-- two registers and an offset in bytes, of a word
abbrev pub word_offset : List Shape
word_offset = shape.Register ∷ shape.Register ∷ shape.Between 0 1020 scale.Four ∷ []

-- a register and a value
abbrev pub move_value : List Shape
move_value = shape.Register ∷ shape.Signed 2048 scale.One ∷ []

-- two registers and a value
abbrev pub add_value : List Shape
add_value = shape.Register ∷ shape.Register ∷ shape.Signed 128 scale.One ∷ []

-- two registers and a value, a multiple of 256
abbrev pub add_pages : List Shape
add_pages = shape.Register ∷ shape.Register ∷ shape.Signed 32768 scale.Page ∷ []

-- a routine
abbrev pub call : List Shape
call = shape.Target way.Call ∷ []

-- a place
abbrev pub jump : List Shape
jump = shape.Target way.Jump ∷ []

-- a register and a place
abbrev pub far_branch : List Shape
far_branch = shape.Register ∷ shape.Target way.Far ∷ []

-- a register, a constant and a place
abbrev pub constant_branch : List Shape
constant_branch = shape.Register ∷ shape.Constant ∷ shape.Target way.Near ∷ []

-- a register, a constant without sign and a place
abbrev pub unsigned_branch : List Shape
unsigned_branch = shape.Register ∷ shape.UnsignedConstant ∷ shape.Target way.Near ∷ []

-- two registers and a place
abbrev pub near_branch : List Shape
near_branch = shape.Register ∷ shape.Register ∷ shape.Target way.Near ∷ []

-- a register, the number of a bit and a place
abbrev pub bit_branch : List Shape
bit_branch = shape.Register ∷ shape.Between 0 31 scale.One ∷ shape.Target way.Near ∷ []

abbrev pub shapes : Mnemonic → List Shape
shapes mnemonic.And = three
shapes mnemonic.Or = three
shapes mnemonic.Xor = three
shapes mnemonic.Add = three
shapes mnemonic.Addx2 = three
shapes mnemonic.Addx4 = three
shapes mnemonic.Addx8 = three
shapes mnemonic.Sub = three
shapes mnemonic.Subx2 = three
shapes mnemonic.Subx4 = three
shapes mnemonic.Subx8 = three
shapes mnemonic.Neg = two
shapes mnemonic.Abs = two
shapes mnemonic.Ssr = one
shapes mnemonic.Ssl = one
shapes mnemonic.Ssai = amount
shapes mnemonic.Ret = none
shapes mnemonic.Jx = one
shapes mnemonic.Callx0 = one
shapes mnemonic.Nop = none
shapes mnemonic.Simcall = none
shapes mnemonic.Slli = left_shift
shapes mnemonic.Srai = right_shift
shapes mnemonic.Srli = short_shift
shapes mnemonic.Src = three
shapes mnemonic.Srl = two
shapes mnemonic.Sll = two
shapes mnemonic.Sra = two
shapes mnemonic.Mul16u = three
shapes mnemonic.Mul16s = three
shapes mnemonic.Mull = three
shapes mnemonic.Sext = extension
shapes mnemonic.Min = three
shapes mnemonic.Max = three
shapes mnemonic.Minu = three
shapes mnemonic.Maxu = three
shapes mnemonic.Moveqz = three
shapes mnemonic.Movnez = three
shapes mnemonic.Movltz = three
shapes mnemonic.Movgez = three
shapes mnemonic.Extui = extract
shapes mnemonic.L32r = load_back
shapes mnemonic.L8ui = byte_offset
shapes mnemonic.L16ui = half_offset
shapes mnemonic.L32i = word_offset
shapes mnemonic.L16si = half_offset
shapes mnemonic.S8i = byte_offset
shapes mnemonic.S16i = half_offset
shapes mnemonic.S32i = word_offset
shapes mnemonic.Movi = move_value
shapes mnemonic.Addi = add_value
shapes mnemonic.Addmi = add_pages
shapes mnemonic.Call0 = call
shapes mnemonic.J = jump
shapes mnemonic.Beqz = far_branch
shapes mnemonic.Bnez = far_branch
shapes mnemonic.Bltz = far_branch
shapes mnemonic.Bgez = far_branch
shapes mnemonic.Beqi = constant_branch
shapes mnemonic.Bnei = constant_branch
shapes mnemonic.Blti = constant_branch
shapes mnemonic.Bgei = constant_branch
shapes mnemonic.Bltui = unsigned_branch
shapes mnemonic.Bgeui = unsigned_branch
shapes mnemonic.Bnone = near_branch
shapes mnemonic.Beq = near_branch
shapes mnemonic.Blt = near_branch
shapes mnemonic.Bltu = near_branch
shapes mnemonic.Ball = near_branch
shapes mnemonic.Bbc = near_branch
shapes mnemonic.Bany = near_branch
shapes mnemonic.Bne = near_branch
shapes mnemonic.Bge = near_branch
shapes mnemonic.Bgeu = near_branch
shapes mnemonic.Bnall = near_branch
shapes mnemonic.Bbs = near_branch
shapes mnemonic.Bbci = bit_branch
shapes mnemonic.Bbsi = bit_branch

-- ---- which numbers fit a shape

abbrev pub step : Scale → ℕ
step scale.One = 1
step scale.Two = 2
step scale.Four = 4
step scale.Page = 256

abbrev pub is_multiple : ℕ → ℤ → Bool
is_multiple n value = unsigned_abs value % n == 0

-- from low to high, both of them taken
abbrev pub is_between : ℕ → ℕ → ℤ → Bool
is_between low high (pos n) = nat_le low n && nat_le n high
is_between low high (negsuc n) = false

-- from -half to half - 1
abbrev pub is_signed : ℕ → ℤ → Bool
is_signed half (pos n) = nat_lt n half
is_signed half (negsuc n) = nat_lt n half

-- from -distance to -1
abbrev pub is_backward : ℕ → ℤ → Bool
is_backward distance (pos n) = false
is_backward distance (negsuc n) = nat_lt n distance

-- the distances that an instruction can hold
abbrev pub in_reach : Way → ℤ → Bool
in_reach way.Near z = is_signed 128 z
in_reach way.Far z = is_signed 2048 z
in_reach way.Jump z = is_signed 131072 z
in_reach way.Call z = is_signed 524288 z && is_multiple 4 z
in_reach way.Load z = is_backward 262144 z && is_multiple 4 z

-- a constant of the branches that compare with one
unfoldable pub is_constant : ℤ → Bool
is_constant z = list_any (λ c. int_eq c z) constants

unfoldable pub is_unsigned_constant : ℤ → Bool
is_unsigned_constant z = list_any (λ c. int_eq c z) unsigned_constants

-- the number fits: of a register its number, of a target its distance
abbrev pub fits_shape : Shape → ℤ → Bool
fits_shape shape.Register z = is_between 0 15 z
fits_shape (shape.Between low high s) z = is_between low high z && is_multiple (step s) z
fits_shape (shape.Signed half s) z = is_signed half z && is_multiple (step s) z
fits_shape shape.Constant z = is_constant z
fits_shape shape.UnsignedConstant z = is_unsigned_constant z
fits_shape (shape.Target w) z = in_reach w z

-- each number fits the shape in its place
abbrev pub EachFits : List Shape → List ℤ → Type 0
EachFits (s ∷ ss) (z ∷ zs) = IsTrue (fits_shape s z) × EachFits ss zs
EachFits _ _ = Unit {0}

-- there is one number for each shape, and it fits
abbrev pub AllFit : List Shape → List ℤ → Type 0
AllFit ss zs = (length ss ≡ length zs) × EachFits ss zs

-- ---- distances

-- the place that the distance of a target is counted from, for an instruction at an address
abbrev pub base : Way → ℕ → ℕ
base way.Call at = at / 4 * 4 + 4
base way.Load at = (at + 3) / 4 * 4
base _ at = at + 4

-- from the base to the target, modulo 2 ^ 32, as a signed number
abbrev pub distance : Way → ℕ → ℕ → ℤ
distance w at target = signed_value (2 ^ 31) ((target + (2 ^ 32 - base w at % 2 ^ 32)) % 2 ^ 32)
