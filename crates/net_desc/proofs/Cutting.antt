-- A text cut at its first dot.
use Rattle.std.proofs.Common.{◌≡◌, ℕ, ◌<◌, List, length, Option, Some, None, refl, arith, Bor}
use Rattle.std.specs.Prelude.{MatchOption}
use Rattle.std.specs.Option.{option_map}
use Rattle.std.specs.List.{before_first, after_first, position_or_len}
use Rattle.std.proofs.lemmas.Bool.{lt-ltb, le-ltb}
use Rattle.net_desc.specs.Ends.{cut, is_dot}

pub cut-split : (text : List ℕ) (r : Option (Bor (List ℕ) × Bor (List ℕ)))
    → MatchOption r (position_or_len is_dot text ≡ length text) (λ x. (position_or_len is_dot text < length text) × (x.0.now ≡ before_first is_dot text) × (x.1.now ≡ after_first is_dot text))
    → option_map (λ (p : Bor (List ℕ) × Bor (List ℕ)). (p.0.now, p.1.now)) r ≡ cut text
cut-split text None h = let test = le-ltb (position_or_len is_dot text) (length text) (omega arith) in rw test refl
cut-split text (Some x) h = let test = lt-ltb (position_or_len is_dot text) (length text) h.0 in rw (test, h.1, h.2) refl
