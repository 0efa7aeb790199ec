-- Symbols of tokens.
use Rattle.std.proofs.Common.{◌≡◌, ℕ, ◌≤◌, inl, inr, min, List, length, take, drop, sym, ap, ◌∙◌, arith}
use Rattle.std.proofs.lemmas.List.{take_min, drop_all}
use Rattle.std.proofs.lemmas.Bool.{cases_lt}
use Rattle.std.proofs.Math.Nat.{min-eq_left}

drop_min : (n : ℕ) (xs : List ℕ) → drop (min n (length xs)) xs ≡ drop n xs
drop_min n xs = elim (cases_lt n (length xs)) [
  | inl h ↦ ap (λ k. drop k xs) (let le : n ≤ length xs = omega arith in min-eq_left le)
  | inr h ↦ drop_all (min n (length xs)) xs (omega arith) ∙ sym (drop_all n xs h)
]

-- a front that is cut at the end of the text, from a place that is
pub clamped : (start size : ℕ) (text : List ℕ) → take (min size (length (drop (min start (length text)) text))) (drop (min start (length text)) text) ≡ take size (drop start text)
clamped start size text = take_min size (drop (min start (length text)) text) ∙ ap (take size) (drop_min start text)
