-- The self sizes of forms, by IEEE 1364-2005 for unsigned operands, on whole numbers, from the sizes of their parts.
use Rattle.std.specs.Prelude.{ℕ, ◌+◌, ◌-◌, max, if◌then◌else◌, List, [], ◌∷◌, drop, slice_index, min}
use Rattle.tie_mean.specs.Literals.{number, capped}
use Rattle.tie_mean.specs.Scope.{Widths}
use Rattle.tie_grammar.specs.declared.symbol.Leaf.{Leaf}
use Rattle.tie_grammar.specs.declared.symbol.TieFunction.{TieFunction}
use Rattle.tie_grammar.specs.declared.symbol.TieFunction.TheVariants as tie
use Rattle.tie_grammar.specs.declared.tree.UnaryOp.{UnaryOp}
use Rattle.tie_grammar.specs.declared.tree.UnaryOp.TheVariants as unary
use Rattle.tie_grammar.specs.declared.tree.BinaryOp.{BinaryOp}
use Rattle.tie_grammar.specs.declared.tree.BinaryOp.TheVariants as op

-- a number of a text; one of 2 ^ 128 and more, which no selection and no replication may have, counts as 2 ^ 128 - 1
abbrev pub bounded : Leaf → ℕ
bounded leaf = capped (number leaf.bytes)

-- `~` has its operand's size; `!` and the reductions are one bit
abbrev pub unary_size : UnaryOp → ℕ → ℕ
unary_size unary.Not a = a
unary_size _ a = 1

-- an operator on two operands of sizes a and b
abbrev pub binary_size : BinaryOp → ℕ → ℕ → ℕ
binary_size op.Or a b = max a b
binary_size op.Xor a b = max a b
binary_size op.And a b = max a b
binary_size op.Add a b = max a b
binary_size op.Subtract a b = max a b
binary_size op.Multiply a b = max a b
binary_size op.ShiftLeft a b = a
binary_size op.ShiftRight a b = a
binary_size _ a b = 1

-- the bits from `high` to `low`
abbrev pub select_size : ℕ → ℕ → ℕ
select_size high low = high - low + 1

-- the greatest of some sizes
abbrev pub greatest_size : List ℕ → ℕ
greatest_size [] = 0
greatest_size (n ∷ ns) = max n (greatest_size ns)

-- TIEadd has the greater size of its first two arguments, TIEmul their sum, TIEmux the greatest of all arms behind the selector
abbrev pub tie_size : TieFunction → List ℕ → ℕ
tie_size tie.Add args = max (slice_index args 0) (slice_index args 1)
tie_size tie.Mul args = slice_index args 0 + slice_index args 1
tie_size tie.Mux args = greatest_size (drop 1 args)

-- a look-up in a table, or one bit
abbrev pub index_size : Widths → Leaf → ℕ
index_size w name = if w.is_table name.bytes then w.table name.bytes else 1

-- sizes grow beyond any integer; those beyond 2 ^ 32 aren't told apart
abbrev pub limited : ℕ → ℕ
limited n = min n 4294967296
