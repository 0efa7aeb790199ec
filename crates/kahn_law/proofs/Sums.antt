-- Sums over the workers.
use Rattle.std.proofs.Common.{◌≡◌, ℕ, zero, suc, ◌<◌, ◌≤◌, sym, subst, inl, inr, ⊎_elim, arith}
use Rattle.std.specs.Prelude.{◌⊎◌}
use Rattle.std.proofs.lemmas.Bool.{cases_eq, cases_lt}
use Rattle.kahn_law.specs.Causal.{total}

pub total_le : (n : ℕ) (f g : ℕ → ℕ) → ((w : ℕ) → w < n → f w ≤ g w) → total n f ≤ total n g
total_le zero f g h = omega arith
total_le (suc n) f g h =
    let t = total_le n f g (λ w lt. h w (omega arith)) in
    let u : f n ≤ g n = h n (omega arith) in omega arith

-- where no part falls and one rises, the sum rises
pub total_lt : (n : ℕ) (f g : ℕ → ℕ) → ((w : ℕ) → w < n → f w ≤ g w) → (v : ℕ) → v < n → f v < g v → total n f < total n g
total_lt zero f g h v lt r = absurd (omega arith)
total_lt (suc n) f g h v lt r =
    let below : (w : ℕ) → w < n → f w ≤ g w = λ w l. h w (omega arith) in
    let u : f n ≤ g n = h n (omega arith) in
    ⊎_elim
    (λ e. let t = total_le n f g below in let s : f n < g n = subst (λ (w : ℕ). f w < g w) e r in omega arith)
    (λ ne. let t = total_lt n f g below v (omega arith) r in omega arith)
    (cases_eq v n)

-- where no part falls, all are the same or one rises
pub same_or_rises : (n : ℕ) (f g : ℕ → ℕ) → ((w : ℕ) → w < n → f w ≤ g w) → ((w : ℕ) → w < n → g w ≡ f w) ⊎ ((v : ℕ) × (v < n) × (f v < g v))
same_or_rises zero f g h = inl (λ w lt. absurd (omega arith))
same_or_rises (suc n) f g h =
    ⊎_elim
    (λ same. ⊎_elim
    (λ rises. inr (n, omega arith, rises))
    (λ not. inl (λ w lt. ⊎_elim (λ e. let le = h w lt in let not' : g w ≤ f w = subst (λ (x : ℕ). g x ≤ f x) (sym e) not in omega arith) (λ ne. same w (omega arith)) (cases_eq w n)))
    (cases_lt (f n) (g n)))
    (λ v. let lt : v.0 < n = v.1 in inr (v.0, omega arith, v.2))
    (same_or_rises n f g (λ w lt. h w (omega arith)))
