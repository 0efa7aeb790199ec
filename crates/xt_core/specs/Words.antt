-- Numbers of 32 bits, as registers hold them.
use Rattle.std.specs.Prelude.{ℕ, ◌+◌, ◌-◌, ◌*◌, ◌/◌, ◌%◌, ◌^◌, ℤ, Bool, not, nat_lt, if◌then◌else◌, int_lt}
use Rattle.xt_isa.specs.Numbers.{twos_complement, signed_value}

-- an integer as a register holds it
abbrev pub word32 : ℤ → ℕ
word32 value = twos_complement (2 ^ 31) value

-- the integer that a register's value stands for
abbrev pub signed32 : ℕ → ℤ
signed32 x = signed_value (2 ^ 31) x

abbrev pub is_negative : ℕ → Bool
is_negative x = not (nat_lt x (2 ^ 31))

abbrev pub signed_less : ℕ → ℕ → Bool
signed_less x y = int_lt (signed32 x) (signed32 y)

-- sums and differences are modulo 2 ^ 32
abbrev pub sum32 : ℕ → ℕ → ℕ
sum32 x y = (x + y) % 2 ^ 32

abbrev pub difference32 : ℕ → ℕ → ℕ
difference32 x y = (x + 2 ^ 32 - y) % 2 ^ 32

-- a number moved by a signed distance
abbrev pub moved : ℕ → ℤ → ℕ
moved x distance = sum32 x (word32 distance)

-- 32 copies of a number's sign bit
abbrev pub sign_copies : ℕ → ℕ
sign_copies x = if is_negative x then 2 ^ 32 - 1 else 0

-- the low 32 bits of 64 bits shifted right
abbrev pub funnel : ℕ → ℕ → ℕ → ℕ
funnel high low amount = (high * 2 ^ 32 + low) / 2 ^ amount % 2 ^ 32

abbrev pub low_half : ℕ → ℕ
low_half x = x % 2 ^ 16

abbrev pub signed_half : ℕ → ℤ
signed_half x = signed_value (2 ^ 15) (low_half x)

-- the bit at a place fills all bits above it
abbrev pub sign_extended : ℕ → ℕ → ℕ
sign_extended x place = word32 (signed_value (2 ^ place) (x % 2 ^ (place + 1)))

-- the bit of a number
abbrev pub bit_of : ℕ → ℕ → ℕ
bit_of x n = x / 2 ^ n % 2

-- with the low two bits cleared
abbrev pub aligned : ℕ → ℕ
aligned x = x / 4 * 4
