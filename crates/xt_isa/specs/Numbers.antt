-- Ranges of operands, and two's complement. `pos n` is the number n, `negsuc n` the number -(n + 1).
use Rattle.std.specs.Prelude.{◌≡◌, ℕ, ◌-◌, ◌*◌, ◌%◌, ◌<◌, ◌≤◌, ℤ, pos, negsuc, nat_lt, if◌then◌else◌, unsigned_abs}

-- a number from low to high, both of them taken
abbrev pub IsBetween : ℕ → ℕ → ℤ → Type 0
IsBetween low high (pos n) = (low ≤ n) × (n ≤ high)
IsBetween low high (negsuc n) = n < 0

-- a number from -half to half - 1
abbrev pub IsSigned : ℕ → ℤ → Type 0
IsSigned half (pos n) = n < half
IsSigned half (negsuc n) = n < half

-- a number from -distance to -1
abbrev pub IsBackward : ℕ → ℤ → Type 0
IsBackward distance (pos n) = n < 0
IsBackward distance (negsuc n) = n < distance

-- a multiple of a step
abbrev pub IsMultiple : ℕ → ℤ → Type 0
IsMultiple step value = unsigned_abs value % step ≡ 0

-- the code of a number: the number modulo 2 * half
abbrev pub twos_complement : ℕ → ℤ → ℕ
twos_complement half (pos n) = n
twos_complement half (negsuc n) = 2 * half - 1 - n

-- the number from -half to half - 1 that a code below 2 * half stands for
abbrev pub signed_value : ℕ → ℕ → ℤ
signed_value half code = if nat_lt code half then pos code else negsuc (2 * half - 1 - code)
