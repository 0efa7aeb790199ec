-- Codes of two's complement and the numbers they stand for are one to one.
use Rattle.std.proofs.Common.{◌≡◌, ℕ, ◌-◌, ◌*◌, ◌%◌, ◌<◌, ℤ, pos, negsuc, refl, arith}
use Rattle.std.specs.Prelude.{nat_lt}
use Rattle.xt_isa.specs.Numbers.{IsMultiple, IsSigned, signed_value, twos_complement}
use Rattle.xt_isa.proofs.Cases.{by_test}

-- a number in range has a code
pub twos_complement_small : (half : ℕ) (value : ℤ) → IsSigned half value → twos_complement half value < 2 * half
twos_complement_small half (pos n) h = omega arith
twos_complement_small half (negsuc n) h = omega arith

-- the code of a number in range stands for it
pub signed_value-twos_complement : (half : ℕ) (value : ℤ) → IsSigned half value → signed_value half (twos_complement half value) ≡ value
signed_value-twos_complement half (pos n) h = grind arith
signed_value-twos_complement half (negsuc n) h = grind arith

-- a code stands for a number in range
pub signed_value_signed : (half code : ℕ) → code < 2 * half → IsSigned half (signed_value half code)
signed_value_signed half code h =
    by_test (IsSigned half) (nat_lt code half) (pos code) (negsuc (2 * half - 1 - code)) (λ e. grind arith) (λ e. grind arith)

-- and it is that number's code
pub twos_complement-signed_value : (half code : ℕ) → code < 2 * half → twos_complement half (signed_value half code) ≡ code
twos_complement-signed_value half code h =
    by_test (λ z. twos_complement half z ≡ code) (nat_lt code half) (pos code) (negsuc (2 * half - 1 - code)) (λ e. refl) (λ e. grind arith)

-- ADDMI: a multiple of 256 has a code that is one
pub signed_value_multiple_256 : (n : ℕ) → n < 256 → IsMultiple 256 (signed_value 32768 (256 * n))
signed_value_multiple_256 n h =
    by_test (IsMultiple 256) (nat_lt (256 * n) 32768) (pos (256 * n)) (negsuc (2 * 32768 - 1 - 256 * n)) (λ e. omega arith) (λ e. omega arith)

pub twos_complement_multiple_256 : (value : ℤ) → IsSigned 32768 value → IsMultiple 256 value → twos_complement 32768 value % 256 ≡ 0
twos_complement_multiple_256 (pos n) h k = omega arith
twos_complement_multiple_256 (negsuc n) h k = omega arith

-- CALL0: a multiple of 4 has a code that is one
pub signed_value_multiple_4 : (n : ℕ) → n < 262144 → IsMultiple 4 (signed_value 524288 (4 * n))
signed_value_multiple_4 n h =
    by_test (IsMultiple 4) (nat_lt (4 * n) 524288) (pos (4 * n)) (negsuc (2 * 524288 - 1 - 4 * n)) (λ e. omega arith) (λ e. omega arith)

pub twos_complement_multiple_4 : (value : ℤ) → IsSigned 524288 value → IsMultiple 4 value → twos_complement 524288 value % 4 ≡ 0
twos_complement_multiple_4 (pos n) h k = omega arith
twos_complement_multiple_4 (negsuc n) h k = omega arith
