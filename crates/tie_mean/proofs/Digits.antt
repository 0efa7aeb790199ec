-- More digits never make a number less.
use Rattle.std.proofs.Common.{◌≡◌, ℕ, ◌+◌, ◌*◌, ◌≤◌, ◌<◌, ◌==◌, true, false, if◌then◌else◌, List, [], ◌∷◌, length, drop, get_or, ap, sym, subst, ◌∙◌, arith}
use Rattle.std.proofs.lemmas.List.{drop_more}
use Rattle.tie_mean.specs.Literals.{digit_value, next_digit, spelled_behind}

times_one : (n d base : ℕ) → 1 ≤ base → n ≤ n * base + d
times_one n d base h = grind arith

pub next_grows : (base n b : ℕ) → 1 ≤ base → n ≤ next_digit base n b
next_grows base n b h = elim (b == 95) as (λ v. n ≤ (if v then n else n * base + digit_value b)) [ true ↦ omega arith | false ↦ times_one n (digit_value b) base h ]

pub spelled_grows : (base n : ℕ) (bs : List ℕ) → 1 ≤ base → n ≤ spelled_behind base n bs
spelled_grows base n [] h = omega arith
spelled_grows base n (b ∷ bs) h =
    let one = next_grows base n b h in
    let more = spelled_grows base (next_digit base n b) bs h in
    omega (arith, one, more)

-- the digits up to one of them spell no more than all
pub spelled_through : (base n : ℕ) (bs : List ℕ) (i s : ℕ) → 1 ≤ base → i < length bs → spelled_behind base n (drop i bs) ≡ s
    → next_digit base n (get_or bs i 0) ≤ s
spelled_through base n bs i s h within e =
    let f : List ℕ → ℕ = λ xs. spelled_behind base n xs in
    let opened : f (get_or bs i 0 ∷ drop (i + 1) bs) ≡ s = sym (ap f (drop_more bs i 0 within)) ∙ e in
    let P : ℕ → Type 0 = λ v. next_digit base n (get_or bs i 0) ≤ v in
    subst P opened (spelled_grows base (next_digit base n (get_or bs i 0)) (drop (i + 1) bs) h)
