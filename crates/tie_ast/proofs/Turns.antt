-- A recursion on a count of turns, beside a loop that counts up.
use Rattle.std.proofs.Common.{◌≡◌, ℕ, suc, ◌+◌, ◌-◌, ◌<◌, ◌≤◌, List, [], ◌∷◌, ◌++◌, length, Option, Some, None, Ok, Err, refl, ap, true, false, if◌then◌else◌, ◌∙◌, arith}
use Rattle.tie_grammar.specs.declared.symbol.Symbol.{Symbol}
use Rattle.tie_grammar.specs.declared.symbol.Mark.{Mark}
use Rattle.tie_grammar.specs.declared.symbol.Mark.TheVariants as m
use Rattle.tie_grammar.specs.Reading.{Parser, and_then, first, sees, expect, ◌>>◌, list_from, list_turn, until, after_comma, to_end}

list_more : {A : Type 0} (next : Option Symbol → Option (Parser A)) (n at : ℕ) (found : List A) (ts : List Symbol) (p : Parser A) → at < n → next (first ts) ≡ Some p
    → list_from next (n - at) found ts ≡ and_then (p ts) (λ x. list_from next (n - (at + 1)) (found ++ x ∷ []))
unfolding list_from list_turn
list_more next n at found ts p below is =
    let k : n - at ≡ suc (n - (at + 1)) = omega arith in
    ap (λ k. list_from next k found ts) k ∙ ap (λ o. list_turn (list_from next (n - (at + 1))) found o ts) is

list_stop : {A : Type 0} (next : Option Symbol → Option (Parser A)) (n at : ℕ) (found : List A) (ts : List Symbol) → at < n → next (first ts) ≡ None → list_from next (n - at) found ts ≡ Ok (found, ts)
unfolding list_from list_turn
list_stop next n at found ts below is =
    let k : n - at ≡ suc (n - (at + 1)) = omega arith in
    ap (λ k. list_from next k found ts) k ∙ ap (λ o. list_turn (list_from next (n - (at + 1))) found o ts) is

pub list_end : {A : Type 0} (next : Option Symbol → Option (Parser A)) (n at : ℕ) (found : List A) (ts : List Symbol) → n ≤ at → list_from next (n - at) found ts ≡ Err (length ts)
unfolding list_from
list_end next n at found ts past = let k : n - at ≡ 0 = omega arith in ap (λ k. list_from next k found ts) k

-- ---- by the test that the code makes

pub comma_stop : {A : Type 0} (p : Parser A) (n at : ℕ) (found : List A) (ts : List Symbol) → at < n → sees m.Comma ts ≡ false → list_from (after_comma p) (n - at) found ts ≡ Ok (found, ts)
comma_stop p n at found ts below e = list_stop (after_comma p) n at found ts below (ap (λ b. if b then Some (expect m.Comma >> p) else None) e)

pub comma_more : {A : Type 0} (p : Parser A) (n at : ℕ) (found : List A) (ts : List Symbol) → at < n → sees m.Comma ts ≡ true
    → list_from (after_comma p) (n - at) found ts ≡ and_then ((expect m.Comma >> p) ts) (λ x. list_from (after_comma p) (n - (at + 1)) (found ++ x ∷ []))
comma_more p n at found ts below e = list_more (after_comma p) n at found ts (expect m.Comma >> p) below (ap (λ b. if b then Some (expect m.Comma >> p) else None) e)

pub until_stop : {A : Type 0} (k : Mark) (p : Parser A) (n at : ℕ) (found : List A) (ts : List Symbol) → at < n → sees k ts ≡ true → list_from (until k p) (n - at) found ts ≡ Ok (found, ts)
until_stop k p n at found ts below e = list_stop (until k p) n at found ts below (ap (λ b. if b then None else Some p) e)

pub until_more : {A : Type 0} (k : Mark) (p : Parser A) (n at : ℕ) (found : List A) (ts : List Symbol) → at < n → sees k ts ≡ false
    → list_from (until k p) (n - at) found ts ≡ and_then (p ts) (λ x. list_from (until k p) (n - (at + 1)) (found ++ x ∷ []))
until_more k p n at found ts below e = list_more (until k p) n at found ts p below (ap (λ b. if b then None else Some p) e)

pub end_stop : {A : Type 0} (p : Parser A) (n at : ℕ) (found : List A) (ts : List Symbol) → at < n → length ts ≡ 0 → list_from (to_end p) (n - at) found ts ≡ Ok (found, ts)
end_stop p n at found [] below e = list_stop (to_end p) n at found [] below refl
end_stop p n at found (x ∷ ts) below e = absurd (omega arith)

pub end_more : {A : Type 0} (p : Parser A) (n at : ℕ) (found : List A) (ts : List Symbol) → at < n → 0 < length ts
    → list_from (to_end p) (n - at) found ts ≡ and_then (p ts) (λ x. list_from (to_end p) (n - (at + 1)) (found ++ x ∷ []))
end_more p n at found [] below e = absurd (omega arith)
end_more p n at found (x ∷ ts) below e = list_more (to_end p) n at found (x ∷ ts) p below refl
