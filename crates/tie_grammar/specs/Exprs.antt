-- Reading expressions.
use Rattle.std.specs.Prelude.{ℕ, zero, suc, ◌+◌, List, length, drop, Bool, true, false, ◌&&◌, Option, Some, None, Ok, nat_le, nat_eq, max, if◌then◌else◌}
use Rattle.tie_grammar.specs.declared.symbol.Leaf.{Leaf}
use Rattle.tie_grammar.specs.declared.symbol.Mark.TheVariants as m
use Rattle.tie_grammar.specs.declared.symbol.Sign.{Sign}
use Rattle.tie_grammar.specs.declared.symbol.Sign.TheVariants as sign
use Rattle.tie_grammar.specs.declared.symbol.TieWord.{TieWord}
use Rattle.tie_grammar.specs.declared.symbol.Symbol.{Symbol}
use Rattle.tie_grammar.specs.declared.symbol.Symbol.TheVariants as s
use Rattle.tie_grammar.specs.declared.tree.Literal.TheVariants as l
use Rattle.tie_grammar.specs.declared.tree.UnaryOp.{UnaryOp}
use Rattle.tie_grammar.specs.declared.tree.UnaryOp.TheVariants as unary
use Rattle.tie_grammar.specs.declared.tree.BinaryOp.{BinaryOp}
use Rattle.tie_grammar.specs.declared.tree.BinaryOp.TheVariants as op
use Rattle.tie_grammar.specs.declared.tree.Operator.{Operator}
use Rattle.tie_grammar.specs.declared.tree.Expr.{Expr}
use Rattle.tie_grammar.specs.declared.tree.Expr.TheVariants as e
use Rattle.tie_grammar.specs.Spelling.{level}
use Rattle.tie_grammar.specs.Reading.{Parser, and_then, ◌>>=◌, ◌>>◌, pure, refuse, first, sees_first, sees, sees_paren, sees_brace, branch, expect, number, paren, brace, some_of, any_of, more_of}

-- a number that stands alone
abbrev pub bare : Expr → Option Leaf
bare (e.Literal (l.Number leaf)) = Some leaf
bare _ = None

unfoldable pub select : Leaf → Leaf → Parser Expr
select n high = do
  expect m.Colon
  low ← number
  expect m.EndBracket
  pure (e.Select n high low)

unfoldable pub index : Leaf → Expr → Parser Expr
index n x = do
  expect m.EndBracket
  pure (e.Index n x)

-- a selection where the part is a number and a colon follows
abbrev pub bracket_end : Leaf → Expr → Option Leaf → Parser Expr
bracket_end n x None = index n x
bracket_end n x (Some high) = λ ts. if sees m.Colon ts then select n high ts else index n x ts

unfoldable pub bracketed : (ℕ → Parser Expr) → Leaf → Parser Expr
bracketed inner n = do
  expect m.Bracket
  x ← inner 0
  bracket_end n x (bare x)

unfoldable pub called : (ℕ → Parser Expr) → Leaf → Parser Expr
called inner n = do
  p ← paren
  xs ← any_of m.EndParen (inner 0)
  expect m.EndParen
  pure (e.Call n p xs)

unfoldable pub named : (ℕ → Parser Expr) → Leaf → Parser Expr
named inner n = λ ts. if sees m.Bracket ts then bracketed inner n ts else (if sees_paren (first ts) then called inner n ts else Ok (e.Name n, ts))

unfoldable pub tie : (ℕ → Parser Expr) → TieWord → Parser Expr
tie inner w = do
  p ← paren
  xs ← some_of (inner 0)
  expect m.EndParen
  pure (e.Tie w p xs)

unfoldable pub grouped : (ℕ → Parser Expr) → ℕ → Parser Expr
grouped inner p = do
  x ← inner 0
  expect m.EndParen
  pure (e.Paren p x)

unfoldable pub repeated : (ℕ → Parser Expr) → ℕ → Leaf → Parser Expr
repeated inner p count = do
  q ← brace
  x ← inner 0
  expect m.EndBrace
  expect m.EndBrace
  pure (e.Repeat p count q x)

unfoldable pub joined : (ℕ → Parser Expr) → ℕ → Expr → Parser Expr
joined inner p x = do
  xs ← more_of (inner 0) x
  expect m.EndBrace
  pure (e.Concat p xs)

-- a replication where the part is a number and a brace follows
abbrev pub brace_end : (ℕ → Parser Expr) → ℕ → Expr → Option Leaf → Parser Expr
brace_end inner p x None = joined inner p x
brace_end inner p x (Some count) = λ ts. if sees_brace (first ts) then repeated inner p count ts else joined inner p x ts

unfoldable pub braced : (ℕ → Parser Expr) → ℕ → Parser Expr
braced inner p = do
  x ← inner 0
  brace_end inner p x (bare x)

abbrev pub unary_op : Sign → Option UnaryOp
unary_op sign.Tilde = Some unary.Not
unary_op sign.Bang = Some unary.LogicalNot
unary_op sign.Amp = Some unary.ReduceAnd
unary_op sign.Bar = Some unary.ReduceOr
unary_op sign.Caret = Some unary.ReduceXor
unary_op _ = None

unfoldable pub prefixed : (ℕ → Parser Expr) → ℕ → UnaryOp → Parser Expr
prefixed inner p o = do
  x ← inner 11
  pure (e.Unary o p x)

abbrev pub prefix_by : (ℕ → Parser Expr) → ℕ → Option UnaryOp → Option (Parser Expr)
prefix_by inner p None = None
prefix_by inner p (Some o) = Some (prefixed inner p o)

abbrev pub primary_of : (ℕ → Parser Expr) → Symbol → Option (Parser Expr)
primary_of inner (s.Number leaf) = Some (pure (e.Literal (l.Number leaf)))
primary_of inner (s.Sized leaf) = Some (pure (e.Literal (l.Sized leaf)))
primary_of inner (s.Name leaf) = Some (named inner leaf)
primary_of inner (s.Tie word) = Some (tie inner word)
primary_of inner (s.Paren place) = Some (grouped inner place)
primary_of inner (s.Brace place) = Some (braced inner place)
primary_of inner (s.Sign g place) = prefix_by inner place (unary_op g)
primary_of inner _ = None

unfoldable pub primary : (ℕ → Parser Expr) → Parser Expr
primary inner = branch (primary_of inner)

abbrev pub binary_op : Sign → Option BinaryOp
binary_op sign.BarBar = Some op.LogicalOr
binary_op sign.AmpAmp = Some op.LogicalAnd
binary_op sign.Bar = Some op.Or
binary_op sign.Caret = Some op.Xor
binary_op sign.Amp = Some op.And
binary_op sign.EqualEqual = Some op.Equal
binary_op sign.BangEqual = Some op.NotEqual
binary_op sign.Less = Some op.Less
binary_op sign.LessEqual = Some op.LessEqual
binary_op sign.Greater = Some op.Greater
binary_op sign.GreaterEqual = Some op.GreaterEqual
binary_op sign.LessLess = Some op.ShiftLeft
binary_op sign.GreaterGreater = Some op.ShiftRight
binary_op sign.Plus = Some op.Add
binary_op sign.Minus = Some op.Subtract
binary_op sign.Star = Some op.Multiply
binary_op _ = None

abbrev pub placed : ℕ → Option BinaryOp → Option Operator
placed place None = None
placed place (Some o) = Some (record { op = o; place = place })

abbrev pub operator_of : Option Symbol → Option Operator
operator_of (Some (s.Sign g place)) = placed place (binary_op g)
operator_of _ = None

abbrev pub operator : List Symbol → Option Operator
operator ts = operator_of (first ts)

-- an operator that binds tightly enough and what stands at its right, or the end
unfoldable pub more : (ℕ → Parser Expr) → (Expr → Parser Expr) → Expr → Operator → Bool → Parser Expr
more inner again left o true = λ ts. and_then (inner (level o.op + 1) (drop 1 ts)) (λ right. again (e.Binary o left right))
more inner again left o false = λ ts. Ok (left, ts)

unfoldable pub turn : (ℕ → Parser Expr) → (Expr → Parser Expr) → ℕ → Expr → Option Operator → Parser Expr
turn inner again least left None = pure left
turn inner again least left (Some o) = more inner again left o (nat_le least (level o.op))

-- the number bounds the turns
unfoldable pub climb : (ℕ → Parser Expr) → ℕ → ℕ → Expr → Parser Expr
climb inner least zero left = refuse
climb inner least (suc n) left = λ ts. turn inner (climb inner least n) least left (operator ts) ts

unfoldable pub climbed : (ℕ → Parser Expr) → ℕ → Expr → Parser Expr
climbed inner least left = λ ts. climb inner least (length ts + 1) left ts

unfoldable pub arms : (ℕ → Parser Expr) → Expr → Parser Expr
arms inner c = do
  expect m.Question
  a ← inner 0
  expect m.Colon
  b ← inner 0
  pure (e.Conditional c a b)

-- a whole expression goes on at a question mark
abbrev pub asks : ℕ → Option Symbol → Bool
asks least o = nat_eq least 0 && sees_first m.Question o

unfoldable pub chosen : (ℕ → Parser Expr) → ℕ → Expr → Parser Expr
chosen inner least x = λ ts. if asks least (first ts) then arms inner x ts else Ok (x, ts)

-- a whole expression at 0, else one whose operators bind at least so tightly
unfoldable pub level_from : (ℕ → Parser Expr) → ℕ → Parser Expr
level_from inner least = do
  left ← primary inner
  x ← climbed inner (max 1 least) left
  chosen inner least x

-- with expressions nested no deeper than the first number
unfoldable pub expr : ℕ → ℕ → Parser Expr
expr zero least = refuse
expr (suc depth) least = level_from (expr depth) least
