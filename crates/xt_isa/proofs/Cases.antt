-- Going through a chain of tests.
use Rattle.std.proofs.Common.{◌≡◌, ℕ, Bool, true, false, cond, refl, subst, arith}
use Rattle.std.specs.Prelude.{◌==◌}

-- what holds of both outcomes of a test, each where the test has that outcome
pub by_test : {A : Type 0} (P : A → Type 0) (b : Bool) (x y : A) → (b ≡ true → P x) → (b ≡ false → P y) → P (cond b x y)
by_test P true x y f g = f refl
by_test P false x y f g = g refl

-- a field that a test found to be k
pub at_field : (P : ℕ → Type 0) (n k : ℕ) → (n == k) ≡ true → P k → P n
at_field P n k h p = let e : k ≡ n = grind arith in subst P e p

-- what is made of such a field is what is made of k
pub same_at : (f : ℕ → ℕ) (n k : ℕ) → (n == k) ≡ true → f n ≡ f k
same_at f n k h = at_field (λ m. f m ≡ f k) n k h refl
