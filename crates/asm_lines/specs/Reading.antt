-- Reading from left to right, with the first fault that is met.
use Rattle.std.specs.Prelude.{ℕ, zero, suc, ◌+◌, List, [], ◌∷◌, ◌++◌, length, Bool, true, false, Option, Some, None, Result, Ok, Err, is_some, if◌then◌else◌}
use Rattle.asm_lines.specs.declared.refusal.AsmRule.TheVariants as rule
use Rattle.asm_lines.specs.declared.token.TokenKind.{TokenKind}
use Rattle.asm_lines.specs.declared.token.TokenKind.TheVariants as kind
use Rattle.asm_lines.specs.declared.token.Token.{Token}
use Rattle.asm_lines.specs.Tokens.{Fault}

-- a value and the tokens after it, or the first fault
abbrev pub Read : Type 0 → Type 0
Read A = Result (A × List Token) Fault

abbrev pub Reader : Type 0 → Type 0
Reader A = List Token → Read A

abbrev pub and_then : {A B : Type 0} → Read A → (A → Reader B) → Read B
and_then (Ok p) f = f p.0 p.1
and_then (Err fault) f = Err fault

infixl 10 ◌>>=◌
abbrev pub ◌>>=◌ : {A B : Type 0} → Reader A → (A → Reader B) → Reader B
p >>= f = λ ts. and_then (p ts) f

infixl 10 ◌>>◌
abbrev pub ◌>>◌ : {A B : Type 0} → Reader A → Reader B → Reader B
p >> q = p >>= (λ _. q)

abbrev pub pure : {A : Type 0} → A → Reader A
pure a = λ ts. Ok (a, ts)

-- the grammar is broken at the first token that is left; a line's end is a token, so there is one
abbrev pub place : List Token → Fault
place [] = (rule.Syntax, 0, 0)
place (t ∷ ts) = (rule.Syntax, t.line, t.column)

abbrev pub refuse : {A : Type 0} → Reader A
refuse = λ ts. Err (place ts)

-- takes the next token if it is one that is wanted
abbrev pub taken : {A : Type 0} → Option A → Token → List Token → Read A
taken None t after = Err (place (t ∷ after))
taken (Some a) t after = Ok (a, after)

abbrev pub one : {A : Type 0} → (Token → Option A) → Reader A
one pick [] = Err (place [])
one pick (t ∷ after) = taken (pick t) t after

abbrev pub first_is : (Token → Bool) → List Token → Bool
first_is test [] = false
first_is test (t ∷ after) = test t

-- ---- lists; the number bounds the turns

unfoldable pub list_turn : {A : Type 0} → (List A → Reader (List A)) → Bool → Reader A → List A → Reader (List A)
list_turn again false p found = pure found
list_turn again true p found = p >>= (λ x. again (found ++ x ∷ []))

-- as long as the next token says so, one more
unfoldable pub list_from : {A : Type 0} → (List Token → Bool) → Reader A → ℕ → List A → Reader (List A)
list_from goes_on p zero found = refuse
list_from goes_on p (suc n) found = λ ts. list_turn (list_from goes_on p n) (goes_on ts) p found ts

abbrev pub many_from : {A : Type 0} → (List Token → Bool) → Reader A → List A → Reader (List A)
many_from goes_on p found = λ ts. list_from goes_on p (length ts + 1) found ts
