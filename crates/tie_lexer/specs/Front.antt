-- What the code finds at the front of the rest of a text.
use Rattle.std.specs.Prelude.{ℕ, List, Option, Some, None}
use Rattle.tie_lexer.specs.Pieces.{IsGap, IsToken, IsBad, IsClosed, IsOpen, IsMark, HasNoMark}
use Rattle.tie_lexer.specs.declared.front.Piece.{Piece}
use Rattle.tie_lexer.specs.declared.front.Piece.TheVariants as piece

-- this piece stands at the front
abbrev pub IsPiece : List ℕ → Piece → Type 0
IsPiece rest (piece.Gap n) = IsGap rest n
IsPiece rest (piece.Token kind n) = IsToken rest kind n
IsPiece rest (piece.Bad rule at) = IsBad rest rule at

-- where the comment at the front ends, if it does
abbrev pub Closes : List ℕ → Option ℕ → Type 0
Closes rest None = IsOpen rest
Closes rest (Some n) = IsClosed rest n

-- how long the mark at the front is, if there is one
abbrev pub Marks : List ℕ → Option ℕ → Type 0
Marks rest None = HasNoMark rest
Marks rest (Some n) = IsMark rest n
