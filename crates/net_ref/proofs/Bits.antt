-- The bits of a mask.
use Rattle.std.proofs.Common.{◌≡◌, ℕ, ◌+◌, ◌*◌, ◌/◌, ◌%◌, ◌≤◌, Bool, true, false, refl, ap, ◌∙◌, arith}
use Rattle.std.specs.Prelude.{◌==◌}
use Rattle.xt_exec.specs.Queues.{bit_if, mask}

-- 1 for true, 0 for false
num : Bool → ℕ
num true = 1
num false = 0

small : (b : Bool) → num b ≤ 1
unfolding num
small true = omega arith
small false = omega arith

weighed : (b : Bool) (w : ℕ) → bit_if b w ≡ w * num b
unfolding num
weighed true w = omega arith
weighed false w = omega arith

is_one : (b : Bool) → (num b == 1) ≡ b
unfolding num
is_one true = refl
is_one false = refl

digit_0 : (m n0 n1 n2 n3 n4 n5 n6 n7 : ℕ) → n0 ≤ 1 → n1 ≤ 1 → n2 ≤ 1 → n3 ≤ 1 → n4 ≤ 1 → n5 ≤ 1 → n6 ≤ 1 → n7 ≤ 1 → m ≡ n0 + 2 * n1 + 4 * n2 + 8 * n3 + 16 * n4 + 32 * n5 + 64 * n6 + 128 * n7 → m % 2 ≡ n0
digit_0 m n0 n1 n2 n3 n4 n5 n6 n7 s0 s1 s2 s3 s4 s5 s6 s7 e = omega arith

digit_1 : (m n0 n1 n2 n3 n4 n5 n6 n7 : ℕ) → n0 ≤ 1 → n1 ≤ 1 → n2 ≤ 1 → n3 ≤ 1 → n4 ≤ 1 → n5 ≤ 1 → n6 ≤ 1 → n7 ≤ 1 → m ≡ n0 + 2 * n1 + 4 * n2 + 8 * n3 + 16 * n4 + 32 * n5 + 64 * n6 + 128 * n7 → m / 2 % 2 ≡ n1
digit_1 m n0 n1 n2 n3 n4 n5 n6 n7 s0 s1 s2 s3 s4 s5 s6 s7 e = omega arith

digit_2 : (m n0 n1 n2 n3 n4 n5 n6 n7 : ℕ) → n0 ≤ 1 → n1 ≤ 1 → n2 ≤ 1 → n3 ≤ 1 → n4 ≤ 1 → n5 ≤ 1 → n6 ≤ 1 → n7 ≤ 1 → m ≡ n0 + 2 * n1 + 4 * n2 + 8 * n3 + 16 * n4 + 32 * n5 + 64 * n6 + 128 * n7 → m / 4 % 2 ≡ n2
digit_2 m n0 n1 n2 n3 n4 n5 n6 n7 s0 s1 s2 s3 s4 s5 s6 s7 e = omega arith

digit_3 : (m n0 n1 n2 n3 n4 n5 n6 n7 : ℕ) → n0 ≤ 1 → n1 ≤ 1 → n2 ≤ 1 → n3 ≤ 1 → n4 ≤ 1 → n5 ≤ 1 → n6 ≤ 1 → n7 ≤ 1 → m ≡ n0 + 2 * n1 + 4 * n2 + 8 * n3 + 16 * n4 + 32 * n5 + 64 * n6 + 128 * n7 → m / 8 % 2 ≡ n3
digit_3 m n0 n1 n2 n3 n4 n5 n6 n7 s0 s1 s2 s3 s4 s5 s6 s7 e = omega arith

digit_4 : (m n0 n1 n2 n3 n4 n5 n6 n7 : ℕ) → n0 ≤ 1 → n1 ≤ 1 → n2 ≤ 1 → n3 ≤ 1 → n4 ≤ 1 → n5 ≤ 1 → n6 ≤ 1 → n7 ≤ 1 → m ≡ n0 + 2 * n1 + 4 * n2 + 8 * n3 + 16 * n4 + 32 * n5 + 64 * n6 + 128 * n7 → m / 16 % 2 ≡ n4
digit_4 m n0 n1 n2 n3 n4 n5 n6 n7 s0 s1 s2 s3 s4 s5 s6 s7 e = omega arith

digit_5 : (m n0 n1 n2 n3 n4 n5 n6 n7 : ℕ) → n0 ≤ 1 → n1 ≤ 1 → n2 ≤ 1 → n3 ≤ 1 → n4 ≤ 1 → n5 ≤ 1 → n6 ≤ 1 → n7 ≤ 1 → m ≡ n0 + 2 * n1 + 4 * n2 + 8 * n3 + 16 * n4 + 32 * n5 + 64 * n6 + 128 * n7 → m / 32 % 2 ≡ n5
digit_5 m n0 n1 n2 n3 n4 n5 n6 n7 s0 s1 s2 s3 s4 s5 s6 s7 e = omega arith

digit_6 : (m n0 n1 n2 n3 n4 n5 n6 n7 : ℕ) → n0 ≤ 1 → n1 ≤ 1 → n2 ≤ 1 → n3 ≤ 1 → n4 ≤ 1 → n5 ≤ 1 → n6 ≤ 1 → n7 ≤ 1 → m ≡ n0 + 2 * n1 + 4 * n2 + 8 * n3 + 16 * n4 + 32 * n5 + 64 * n6 + 128 * n7 → m / 64 % 2 ≡ n6
digit_6 m n0 n1 n2 n3 n4 n5 n6 n7 s0 s1 s2 s3 s4 s5 s6 s7 e = omega arith

digit_7 : (m n0 n1 n2 n3 n4 n5 n6 n7 : ℕ) → n0 ≤ 1 → n1 ≤ 1 → n2 ≤ 1 → n3 ≤ 1 → n4 ≤ 1 → n5 ≤ 1 → n6 ≤ 1 → n7 ≤ 1 → m ≡ n0 + 2 * n1 + 4 * n2 + 8 * n3 + 16 * n4 + 32 * n5 + 64 * n6 + 128 * n7 → m / 128 % 2 ≡ n7
digit_7 m n0 n1 n2 n3 n4 n5 n6 n7 s0 s1 s2 s3 s4 s5 s6 s7 e = omega arith

summed : (test : ℕ → Bool) (m : ℕ) → m ≡ mask test
    → m ≡ num (test 0) + 2 * num (test 1) + 4 * num (test 2) + 8 * num (test 3) + 16 * num (test 4) + 32 * num (test 5) + 64 * num (test 6) + 128 * num (test 7)
summed test m e =
    let e0 = weighed (test 0) 1 in
    let e1 = weighed (test 1) 2 in
    let e2 = weighed (test 2) 4 in
    let e3 = weighed (test 3) 8 in
    let e4 = weighed (test 4) 16 in
    let e5 = weighed (test 5) 32 in
    let e6 = weighed (test 6) 64 in
    let e7 = weighed (test 7) 128 in
    omega arith

pub bit_0 : (m : ℕ) (test : ℕ → Bool) → m ≡ mask test → (m % 2 == 1) ≡ test 0
bit_0 m test e = ap (λ (n : ℕ). n == 1) (digit_0 m (num (test 0)) (num (test 1)) (num (test 2)) (num (test 3)) (num (test 4)) (num (test 5)) (num (test 6)) (num (test 7)) (small (test 0)) (small (test 1)) (small (test 2)) (small (test 3)) (small (test 4)) (small (test 5)) (small (test 6)) (small (test 7)) (summed test m e)) ∙ is_one (test 0)

pub bit_1 : (m : ℕ) (test : ℕ → Bool) → m ≡ mask test → (m / 2 % 2 == 1) ≡ test 1
bit_1 m test e = ap (λ (n : ℕ). n == 1) (digit_1 m (num (test 0)) (num (test 1)) (num (test 2)) (num (test 3)) (num (test 4)) (num (test 5)) (num (test 6)) (num (test 7)) (small (test 0)) (small (test 1)) (small (test 2)) (small (test 3)) (small (test 4)) (small (test 5)) (small (test 6)) (small (test 7)) (summed test m e)) ∙ is_one (test 1)

pub bit_2 : (m : ℕ) (test : ℕ → Bool) → m ≡ mask test → (m / 4 % 2 == 1) ≡ test 2
bit_2 m test e = ap (λ (n : ℕ). n == 1) (digit_2 m (num (test 0)) (num (test 1)) (num (test 2)) (num (test 3)) (num (test 4)) (num (test 5)) (num (test 6)) (num (test 7)) (small (test 0)) (small (test 1)) (small (test 2)) (small (test 3)) (small (test 4)) (small (test 5)) (small (test 6)) (small (test 7)) (summed test m e)) ∙ is_one (test 2)

pub bit_3 : (m : ℕ) (test : ℕ → Bool) → m ≡ mask test → (m / 8 % 2 == 1) ≡ test 3
bit_3 m test e = ap (λ (n : ℕ). n == 1) (digit_3 m (num (test 0)) (num (test 1)) (num (test 2)) (num (test 3)) (num (test 4)) (num (test 5)) (num (test 6)) (num (test 7)) (small (test 0)) (small (test 1)) (small (test 2)) (small (test 3)) (small (test 4)) (small (test 5)) (small (test 6)) (small (test 7)) (summed test m e)) ∙ is_one (test 3)

pub bit_4 : (m : ℕ) (test : ℕ → Bool) → m ≡ mask test → (m / 16 % 2 == 1) ≡ test 4
bit_4 m test e = ap (λ (n : ℕ). n == 1) (digit_4 m (num (test 0)) (num (test 1)) (num (test 2)) (num (test 3)) (num (test 4)) (num (test 5)) (num (test 6)) (num (test 7)) (small (test 0)) (small (test 1)) (small (test 2)) (small (test 3)) (small (test 4)) (small (test 5)) (small (test 6)) (small (test 7)) (summed test m e)) ∙ is_one (test 4)

pub bit_5 : (m : ℕ) (test : ℕ → Bool) → m ≡ mask test → (m / 32 % 2 == 1) ≡ test 5
bit_5 m test e = ap (λ (n : ℕ). n == 1) (digit_5 m (num (test 0)) (num (test 1)) (num (test 2)) (num (test 3)) (num (test 4)) (num (test 5)) (num (test 6)) (num (test 7)) (small (test 0)) (small (test 1)) (small (test 2)) (small (test 3)) (small (test 4)) (small (test 5)) (small (test 6)) (small (test 7)) (summed test m e)) ∙ is_one (test 5)

pub bit_6 : (m : ℕ) (test : ℕ → Bool) → m ≡ mask test → (m / 64 % 2 == 1) ≡ test 6
bit_6 m test e = ap (λ (n : ℕ). n == 1) (digit_6 m (num (test 0)) (num (test 1)) (num (test 2)) (num (test 3)) (num (test 4)) (num (test 5)) (num (test 6)) (num (test 7)) (small (test 0)) (small (test 1)) (small (test 2)) (small (test 3)) (small (test 4)) (small (test 5)) (small (test 6)) (small (test 7)) (summed test m e)) ∙ is_one (test 6)

pub bit_7 : (m : ℕ) (test : ℕ → Bool) → m ≡ mask test → (m / 128 % 2 == 1) ≡ test 7
bit_7 m test e = ap (λ (n : ℕ). n == 1) (digit_7 m (num (test 0)) (num (test 1)) (num (test 2)) (num (test 3)) (num (test 4)) (num (test 5)) (num (test 6)) (num (test 7)) (small (test 0)) (small (test 1)) (small (test 2)) (small (test 3)) (small (test 4)) (small (test 5)) (small (test 6)) (small (test 7)) (summed test m e)) ∙ is_one (test 7)
