-- Where the tokens of a text stand.
use Rattle.std.proofs.Common.{◌≡◌, ℕ, ◌+◌, ◌-◌, ◌≤◌, List, [], ◌∷◌, length, take, drop, subst, sym, arith, length-drop}
use Rattle.std.specs.List.{AllByRecursion}
use Rattle.tie_lexer.specs.declared.Token.{Token}
use Rattle.tie_lexer.specs.Pieces.{IsToken}
use Rattle.tie_lexer.specs.Tokens.{Lexed, done, gap, token, AreTokens, IsInText, IsSpelled, IsAlone, AreInOrder}
use Rattle.tie_lexer.proofs.Alone.{token_alone}
use Rattle.tie_lexer.proofs.Within.{spelled_within}

lexed_in_text : (text : List ℕ) (at to : ℕ) (ts : List Token) → Lexed text at ts to → AllByRecursion (IsInText text) ts
lexed_in_text text at to ts done = tt
lexed_in_text text at to ts (gap n more g rest) = lexed_in_text text (at + n) to ts rest
lexed_in_text text at to ts (token {ts = us} k n more t rest) =
    let size = length-drop at text in
    let w = spelled_within (drop at text) k n (omega arith) t.0 in
    ((omega (arith, w.0), omega (arith, w.1)), lexed_in_text text (at + n) to us rest)

-- the tokens of a text are bytes of it, each one or more
pub in_text : (text : List ℕ) (ts : List Token) → AreTokens text ts → AllByRecursion (IsInText text) ts
in_text text ts h = lexed_in_text text 0 (length text) ts h

in_order_from : (from at : ℕ) (ts : List Token) → from ≤ at → AreInOrder at ts → AreInOrder from ts
in_order_from from at [] low h = tt
in_order_from from at (t ∷ ts) low h = (omega (arith, h.0), h.1)

lexed_in_order : (text : List ℕ) (at to : ℕ) (ts : List Token) → Lexed text at ts to → AreInOrder at ts
lexed_in_order text at to ts done = tt
lexed_in_order text at to ts (gap n more g rest) = in_order_from at (at + n) ts (omega arith) (lexed_in_order text (at + n) to ts rest)
lexed_in_order text at to ts (token {ts = us} k n more t rest) = (omega arith, lexed_in_order text (at + n) to us rest)

-- each token of a text begins at or behind the end of the one before
pub in_order : (text : List ℕ) (ts : List Token) → AreTokens text ts → AreInOrder 0 ts
in_order text ts h = lexed_in_order text 0 (length text) ts h

lexed_spelled : (text : List ℕ) (at to : ℕ) (ts : List Token) → Lexed text at ts to → AllByRecursion (IsSpelled text) ts
lexed_spelled text at to ts done = tt
lexed_spelled text at to ts (gap n more g rest) = lexed_spelled text (at + n) to ts rest
lexed_spelled text at to ts (token {ts = us} k n more t rest) =
    let size : at + n - at ≡ n = omega arith in
    (subst (λ (m : ℕ). IsToken (drop at text) k m) (sym size) t, lexed_spelled text (at + n) to us rest)

-- each token of a text is the longest one at its place
pub spelled : (text : List ℕ) (ts : List Token) → AreTokens text ts → AllByRecursion (IsSpelled text) ts
spelled text ts h = lexed_spelled text 0 (length text) ts h

lexed_alone : (text : List ℕ) (at to : ℕ) (ts : List Token) → Lexed text at ts to → AllByRecursion (IsAlone text) ts
lexed_alone text at to ts done = tt
lexed_alone text at to ts (gap n more g rest) = lexed_alone text (at + n) to ts rest
lexed_alone text at to ts (token {ts = us} k n more t rest) =
    let size : at + n - at ≡ n = omega arith in (
      subst (λ (m : ℕ). IsToken (take m (drop at text)) k m) (sym size) (token_alone (drop at text) k n t),
      lexed_alone text (at + n) to us rest,
    )

-- the bytes of each token of a text are that token alone
pub alone : (text : List ℕ) (ts : List Token) → AreTokens text ts → AllByRecursion (IsAlone text) ts
alone text ts h = lexed_alone text 0 (length text) ts h
