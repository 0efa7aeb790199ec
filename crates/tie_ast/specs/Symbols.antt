-- The tokens of a text as the grammar sees them.
use Rattle.std.specs.Prelude.{ℕ, Bool, List, [], ◌∷◌, length, map, Option, Some, None, codes, slice_get, if◌then◌else◌}
use Rattle.std.specs.Str.{bytes_eq}
use Rattle.tie_lexer.specs.declared.TokenKind.{TokenKind}
use Rattle.tie_lexer.specs.declared.TokenKind.TheVariants as kind
use Rattle.tie_lexer.specs.declared.Token.{Token}
use Rattle.tie_lexer.specs.Tokens.{bytes_of}
use Rattle.tie_grammar.specs.declared.symbol.Leaf.{Leaf}
use Rattle.tie_grammar.specs.declared.symbol.Mark.{Mark}
use Rattle.tie_grammar.specs.declared.symbol.Mark.TheVariants as m
use Rattle.tie_grammar.specs.declared.symbol.Sign.{Sign}
use Rattle.tie_grammar.specs.declared.symbol.Sign.TheVariants as sign
use Rattle.tie_grammar.specs.declared.symbol.Direction.TheVariants as way
use Rattle.tie_grammar.specs.declared.symbol.TieFunction.{TieFunction}
use Rattle.tie_grammar.specs.declared.symbol.TieFunction.TheVariants as tie
use Rattle.tie_grammar.specs.declared.symbol.Stage.{Stage}
use Rattle.tie_grammar.specs.declared.symbol.Stage.TheVariants as stage
use Rattle.tie_grammar.specs.declared.symbol.Symbol.{Symbol}
use Rattle.tie_grammar.specs.declared.symbol.Symbol.TheVariants as s

-- a word or mark of the grammar, and the symbol that it is at a place
abbrev pub Row : Type 0
Row = List ℕ × (ℕ → Symbol)

abbrev pub mark : Mark → ℕ → Symbol
mark x place = s.Mark x

abbrev pub sign_at : Sign → ℕ → Symbol
sign_at x place = s.Sign x place

abbrev pub tie_at : TieFunction → ℕ → Symbol
tie_at x place = s.Tie (record { function = x; place = place })

abbrev pub stage_at : Stage → ℕ → Symbol
stage_at x place = s.Stage (record { stage = x; place = place })

abbrev pub declaration_words : List Row
declaration_words =
    (codes "state", mark m.State) ∷ (codes "regfile", mark m.Regfile) ∷ (codes "queue", mark m.Queue) ∷ (codes "table", mark m.Table)
    ∷ (codes "immediate_range", mark m.ImmediateRange) ∷ (codes "function", mark m.Function) ∷ (codes "operation", mark m.Operation)
    ∷ (codes "schedule", mark m.Schedule) ∷ (codes "format", mark m.Format) ∷ (codes "slot_opcodes", mark m.SlotOpcodes) ∷ []

abbrev pub item_words : List Row
item_words = (codes "wire", mark m.Wire) ∷ (codes "assign", mark m.Assign) ∷ (codes "use", mark m.Use) ∷ (codes "def", mark m.Def) ∷ []

abbrev pub kept_words : List Row
kept_words =
    (codes "in", λ _. s.Direction way.In) ∷ (codes "out", λ _. s.Direction way.Out) ∷ (codes "inout", λ _. s.Direction way.Inout)
    ∷ (codes "Estage", stage_at stage.Estage) ∷ (codes "Mstage", stage_at stage.Mstage)
    ∷ (codes "TIEadd", tie_at tie.Add) ∷ (codes "TIEmul", tie_at tie.Mul) ∷ (codes "TIEmux", tie_at tie.Mux) ∷ []

abbrev pub brackets : List Row
brackets =
    (codes "(", s.Paren) ∷ (codes ")", mark m.EndParen) ∷ (codes "[", mark m.Bracket) ∷ (codes "]", mark m.EndBracket)
    ∷ (codes "{", s.Brace) ∷ (codes "}", mark m.EndBrace) ∷ []

abbrev pub separators : List Row
separators =
    (codes ",", mark m.Comma) ∷ (codes ";", mark m.Semicolon) ∷ (codes ":", mark m.Colon) ∷ (codes "?", mark m.Question) ∷ (codes "=", mark m.Equals) ∷ []

abbrev pub bit_signs : List Row
bit_signs =
    (codes "||", sign_at sign.BarBar) ∷ (codes "&&", sign_at sign.AmpAmp) ∷ (codes "|", sign_at sign.Bar) ∷ (codes "^", sign_at sign.Caret)
    ∷ (codes "&", sign_at sign.Amp) ∷ (codes "~", sign_at sign.Tilde) ∷ (codes "!", sign_at sign.Bang) ∷ []

abbrev pub number_signs : List Row
number_signs =
    (codes "==", sign_at sign.EqualEqual) ∷ (codes "!=", sign_at sign.BangEqual) ∷ (codes "<", sign_at sign.Less) ∷ (codes "<=", sign_at sign.LessEqual)
    ∷ (codes ">", sign_at sign.Greater) ∷ (codes ">=", sign_at sign.GreaterEqual) ∷ (codes "<<", sign_at sign.LessLess) ∷ (codes ">>", sign_at sign.GreaterGreater)
    ∷ (codes "+", sign_at sign.Plus) ∷ (codes "-", sign_at sign.Minus) ∷ (codes "*", sign_at sign.Star) ∷ []

-- two words are the same
abbrev pub is : List ℕ → List ℕ → Bool
is word other = bytes_eq word other

-- the symbol of the row with these bytes
abbrev pub lookup : List ℕ → ℕ → List Row → Option Symbol
lookup bytes place [] = None
lookup bytes place (row ∷ rows) = if is bytes row.0 then Some (row.1 place) else lookup bytes place rows

abbrev pub or_else : Option Symbol → Option Symbol → Option Symbol
or_else None y = y
or_else (Some x) y = Some x

-- reserved words and marks
abbrev pub reserved : List ℕ → ℕ → Option Symbol
reserved bytes place =
    or_else (lookup bytes place declaration_words) (or_else (lookup bytes place item_words) (or_else (lookup bytes place kept_words)
    (or_else (lookup bytes place brackets) (or_else (lookup bytes place separators) (or_else (lookup bytes place bit_signs) (lookup bytes place number_signs))))))

abbrev pub reserved_or_name : Leaf → Option Symbol → Symbol
reserved_or_name leaf None = s.Name leaf
reserved_or_name leaf (Some x) = x

-- words and marks that are reserved, and names
abbrev pub symbol_by : Leaf → TokenKind → Symbol
symbol_by leaf kind.Number = s.Number leaf
symbol_by leaf kind.Sized = s.Sized leaf
symbol_by leaf kind.Word = reserved_or_name leaf (reserved leaf.bytes leaf.place)
symbol_by leaf kind.Mark = reserved_or_name leaf (reserved leaf.bytes leaf.place)

abbrev pub leaf_of : List ℕ → Token → Leaf
leaf_of text t = record { bytes = bytes_of text t; place = t.start }

abbrev pub symbol_of : List ℕ → Token → Symbol
symbol_of text t = symbol_by (leaf_of text t) t.kind

abbrev pub symbols : List ℕ → List Token → List Symbol
symbols text tokens = map (symbol_of text) tokens

-- the place of a token, or the text's length behind the last one
abbrev pub place_by : List ℕ → Option Token → ℕ
place_by text None = length text
place_by text (Some t) = t.start

abbrev pub place_at : List ℕ → List Token → ℕ → ℕ
place_at text tokens i = place_by text (slice_get tokens i)
