-- A line as pieces, and the tokens of these pieces.
use Rattle.std.specs.Prelude.{◌≡◌, ℕ, ◌<◌, List, [], ◌∷◌, ◌++◌, length, ◌⊎◌}
use Rattle.asm_lines.specs.declared.token.TokenKind.{TokenKind}
use Rattle.asm_lines.specs.declared.token.Token.{Token}
use Rattle.asm_lines.specs.declared.token.Spot.{Spot}
use Rattle.asm_lines.specs.declared.piece.Piece.TheVariants as piece
use Rattle.asm_lines.specs.Tokens.{front, moved, past, token_at}

-- a space, or bytes that are read as one token
pub data Chunk : Type 0 where
  space : Chunk
  shown : (k : TokenKind) (bytes : List ℕ) → Chunk

abbrev pub text_of : List Chunk → List ℕ
text_of [] = []
text_of (space ∷ cs) = 32 ∷ text_of cs
text_of (shown k w ∷ cs) = w ++ text_of cs

-- the tokens, the first byte being at a spot
abbrev pub tokens_at : Spot → List Chunk → List Token
tokens_at s [] = []
tokens_at s (space ∷ cs) = tokens_at (moved 1 s) cs
tokens_at s (shown k w ∷ cs) = token_at k s ∷ tokens_at (past (length w) s) cs

-- the spot behind the pieces
abbrev pub spot_after : Spot → List Chunk → Spot
spot_after s [] = s
spot_after s (space ∷ cs) = spot_after (moved 1 s) cs
spot_after s (shown k w ∷ cs) = spot_after (past (length w) s) cs

-- bytes with some bytes behind them are read as a token, unless they are too many
abbrev pub Reads : TokenKind → List ℕ → List ℕ → Type 0
Reads k w rest = (front (w ++ rest) ≡ piece.Token k (length w)) ⊎ (front (w ++ rest) ≡ piece.Bad)

-- each piece is read as it says
abbrev pub AllRead : List Chunk → List ℕ → Type 0
AllRead [] rest = Unit {0}
AllRead (space ∷ cs) rest = AllRead cs rest
AllRead (shown k w ∷ cs) rest = (0 < length w) × Reads k w (text_of cs ++ rest) × AllRead cs rest
