-- The tokens of a text, and its first fault.
use Rattle.std.specs.Prelude.{◌≡◌, ℕ, ◌+◌, ◌-◌, ◌<◌, ◌≤◌, List, [], ◌∷◌, length, take, drop, ⊤}
use Rattle.tie_lexer.specs.Pieces.{IsGap, IsToken, IsBad}
use Rattle.tie_lexer.specs.declared.TokenKind.{TokenKind}
use Rattle.tie_lexer.specs.declared.Token.{Token}
use Rattle.tie_lexer.specs.declared.LexRule.{LexRule}

-- from the place `at` up to the place `to`, the text is these tokens, with gaps before, between and behind them
pub data Lexed (text : List ℕ) : ℕ → List Token → ℕ → Type 0 where
  done : {at : ℕ} → Lexed text at [] at
  gap : {at to : ℕ} {ts : List Token} (n : ℕ) → at < length text → IsGap (drop at text) n → Lexed text (at + n) ts to → Lexed text at ts to
  token : {at to : ℕ} {ts : List Token} (kind : TokenKind) (n : ℕ) → at < length text → IsToken (drop at text) kind n → Lexed text (at + n) ts to
      → Lexed text at (record { kind = kind; start = at; end = at + n } ∷ ts) to

-- the whole text is these tokens
abbrev pub AreTokens : List ℕ → List Token → Type 0
AreTokens text ts = Lexed text 0 ts (length text)

-- tokens and gaps up to a place, and behind it what begins none, with the fault at `place`
pub record IsFault (text : List ℕ) (rule : LexRule) (place : ℕ) : Type 0 where
  pub tokens : List Token
  pub at : ℕ
  pub before : Lexed text 0 tokens at
  pub more : at < length text
  pub offset : ℕ
  pub bad : IsBad (drop at text) rule offset
  pub place_is : place ≡ at + offset

-- the bytes of a token
abbrev pub bytes_of : List ℕ → Token → List ℕ
bytes_of text t = take (t.end - t.start) (drop t.start text)

-- some bytes of the text
abbrev pub IsInText : List ℕ → Token → Type 0
IsInText text t = (t.start < t.end) × (t.end ≤ length text)

-- the longest token of its kind stands at its place
abbrev pub IsSpelled : List ℕ → Token → Type 0
IsSpelled text t = IsToken (drop t.start text) t.kind (t.end - t.start)

-- the bytes of the token alone are that token
abbrev pub IsAlone : List ℕ → Token → Type 0
IsAlone text t = IsToken (bytes_of text t) t.kind (t.end - t.start)

-- each one begins at or behind the end of the one before, the first at or behind `from`
abbrev pub AreInOrder : ℕ → List Token → Type 0
AreInOrder from [] = ⊤
AreInOrder from (t ∷ ts) = (from ≤ t.start) × AreInOrder t.end ts
