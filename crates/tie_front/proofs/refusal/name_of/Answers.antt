use Rattle.std.proofs.Common.{◌≡◌, ℕ, ◌≤◌, ◌-◌, List, [], ◌∷◌, length, zero, suc, refl, sym, arith}
use Rattle.tie_front.specs.RuleNames.{name_at, names}
use Rattle.tie_front.proofs.refusal.name_of.Goals as goal

-- no name stands behind the last one
name_behind : (ns : List (List ℕ)) (n : ℕ) → length ns ≤ n → name_at n ns ≡ []
name_behind [] n h = refl
name_behind (x ∷ xs) zero h = absurd (grind arith)
name_behind (x ∷ xs) (suc n) h = name_behind xs n (grind arith)

pub returns-in-32-to-255 : goal.returns-in-32-to-255
returns-in-32-to-255 c =
    let beyond : length names ≤ c.args.number - 1 = omega arith in
    sym (name_behind names (c.args.number - 1) beyond)
