-- A recursion on a count of turns, beside a loop that counts up.
use Rattle.std.proofs.Common.{◌≡◌, ℕ, suc, ◌+◌, ◌-◌, ◌<◌, ◌≤◌, List, [], ◌∷◌, ◌++◌, length, Bool, true, false, Ok, Err, refl, ap, ◌∙◌, arith}
use Rattle.asm_lines.specs.declared.token.Token.{Token}
use Rattle.asm_lines.specs.Reading.{Reader, and_then, place, list_from, list_turn}

pub list_more : {A : Type 0} (goes_on : List Token → Bool) (p : Reader A) (n at : ℕ) (found : List A) (ts : List Token) → at < n → goes_on ts ≡ true
    → list_from goes_on p (n - at) found ts ≡ and_then (p ts) (λ x. list_from goes_on p (n - (at + 1)) (found ++ x ∷ []))
unfolding list_from list_turn
list_more goes_on p n at found ts below is =
    let k : n - at ≡ suc (n - (at + 1)) = omega arith in
    ap (λ k. list_from goes_on p k found ts) k ∙ ap (λ b. list_turn (list_from goes_on p (n - (at + 1))) b p found ts) is

pub list_stop : {A : Type 0} (goes_on : List Token → Bool) (p : Reader A) (n at : ℕ) (found : List A) (ts : List Token) → at < n → goes_on ts ≡ false
    → list_from goes_on p (n - at) found ts ≡ Ok (found, ts)
unfolding list_from list_turn
list_stop goes_on p n at found ts below is =
    let k : n - at ≡ suc (n - (at + 1)) = omega arith in
    ap (λ k. list_from goes_on p k found ts) k ∙ ap (λ b. list_turn (list_from goes_on p (n - (at + 1))) b p found ts) is

pub list_end : {A : Type 0} (goes_on : List Token → Bool) (p : Reader A) (n at : ℕ) (found : List A) (ts : List Token) → n ≤ at
    → list_from goes_on p (n - at) found ts ≡ Err (place ts)
unfolding list_from
list_end goes_on p n at found ts past = let k : n - at ≡ 0 = omega arith in ap (λ k. list_from goes_on p k found ts) k
