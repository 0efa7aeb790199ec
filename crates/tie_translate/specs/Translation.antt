-- Expressions of a text as typed expressions over inputs.
use Rattle.std.specs.Prelude.{◌≡◌, ℕ, ◌+◌, ◌%◌, ◌^◌, ◌≤◌, List, [], ◌∷◌, drop, length, map, max, sum}
use Rattle.tie_expr.specs.Word.{Word}
use Rattle.tie_expr.specs.Meaning.{Meaning as Typed, arm, mul_meaning}
use Rattle.tie_expr.specs.Operators.{lookup_value, part_value, join_value}
use Rattle.tie_mean.specs.Sizes.{select_size, greatest_size}
use Rattle.tie_grammar.specs.declared.symbol.TieFunction.{TieFunction}
use Rattle.tie_grammar.specs.declared.symbol.TieFunction.TheVariants as tie
use Rattle.tie_mean.specs.Scope.{Widths}
use Rattle.tie_mean.specs.Values.{Values, Meaning, meaning, size, assigned, unary_value, binary_value}
use Rattle.tie_grammar.specs.declared.tree.UnaryOp.{UnaryOp}
use Rattle.tie_grammar.specs.declared.tree.UnaryOp.TheVariants as unary
use Rattle.tie_grammar.specs.declared.tree.BinaryOp.{BinaryOp}
use Rattle.tie_grammar.specs.declared.tree.BinaryOp.TheVariants as op
use Rattle.tie_grammar.specs.declared.tree.Expr.{Expr}

-- what names stand for, as a function of the inputs
abbrev pub Env : Type 0
Env = List Word → Values

abbrev pub at_size : Env → ℕ → Meaning → Typed
at_size env n v = record { width = n; at = λ inputs. v.at (env inputs) n }

-- an expression in a size
abbrev pub in_size : Widths → Env → ℕ → Expr → Typed
in_size w env n x = at_size env n (meaning w x)

abbrev pub in_own_size : Widths → Env → Expr → Typed
in_own_size w env x = in_size w env (size w x) x

-- an expression as it is assigned to a name
abbrev pub assigned_in : Widths → Env → ℕ → Expr → Typed
assigned_in w env width x = record { width = width; at = λ inputs. (meaning w x).at (env inputs) (max (size w x) width) % 2 ^ width }

-- a name that is read
abbrev pub name_typed : Widths → Env → List ℕ → Typed
name_typed w env name = record { width = w.name name; at = λ inputs. (env inputs).name name }

-- a call on arguments
abbrev pub call_typed : Widths → Env → List ℕ → List Typed → Typed
call_typed w env name args = record { width = w.function name; at = λ inputs. (env inputs).call name (map (λ a. a.at inputs) args) }

-- a look-up at an index
abbrev pub lookup_typed : Widths → Env → List ℕ → Typed → Typed
lookup_typed w env name index = record { width = w.table name; at = λ inputs. lookup_value ((env inputs).table name) (index.at inputs) }

abbrev pub unary_typed : UnaryOp → ℕ → ℕ → Typed → Typed
unary_typed o n w a = record { width = n; at = λ inputs. unary_value o w (a.at inputs) }

abbrev pub binary_typed : BinaryOp → ℕ → Typed → Typed → Typed
binary_typed o n a b = record { width = n; at = λ inputs. binary_value o n (a.at inputs) (b.at inputs) }

-- the widths of two sides that were brought to their sizes
abbrev pub Fit : BinaryOp → ℕ → ℕ → ℕ → Type 0
Fit op.LogicalOr n a b = Unit {0}
Fit op.LogicalAnd n a b = Unit {0}
Fit op.Equal n a b = a ≡ b
Fit op.NotEqual n a b = a ≡ b
Fit op.Less n a b = a ≡ b
Fit op.LessEqual n a b = a ≡ b
Fit op.Greater n a b = a ≡ b
Fit op.GreaterEqual n a b = a ≡ b
Fit op.ShiftLeft n a b = a ≡ n
Fit op.ShiftRight n a b = a ≡ n
Fit _ n a b = (a ≡ n) × (b ≡ n)

abbrev pub UnaryFit : UnaryOp → ℕ → ℕ → Type 0
UnaryFit unary.Not n a = a ≡ n
UnaryFit _ n a = Unit {0}

-- the same value in another width
abbrev pub widened : Typed → ℕ → Typed
widened a n = record { width = n; at = a.at }

-- a number whatever the inputs
abbrev pub constant_typed : ℕ → ℕ → Typed
constant_typed n value = record { width = n; at = λ inputs. value }

-- bits of a name
abbrev pub select_typed : Env → List ℕ → ℕ → ℕ → Typed
select_typed env name high low = record { width = select_size high low; at = λ inputs. part_value ((env inputs).name name) high low }

-- ---- lists of expressions

-- an expression in its own size
abbrev pub own_typed : Env → Meaning → Typed
own_typed env m = at_size env m.size m

abbrev pub widths_of : List Typed → List ℕ
widths_of ts = map (λ t. t.width) ts

-- parts behind each other, the first highest
abbrev pub concat_at : List Word → List Typed → ℕ
concat_at inputs [] = 0
concat_at inputs (t ∷ ts) = join_value (t.at inputs) (sum (widths_of ts)) (concat_at inputs ts)

abbrev pub concat_typed : List Typed → Typed
concat_typed ts = record { width = sum (widths_of ts); at = λ inputs. concat_at inputs ts }

-- a bit of a name
abbrev pub bit_typed : Env → List ℕ → ℕ → Typed
bit_typed env name at = record { width = 1; at = λ inputs. part_value ((env inputs).name name) at at }

-- each argument of a call, as it is assigned to its parameter
abbrev pub arguments_typed : Env → List ℕ → List Meaning → List Typed
arguments_typed env [] xs = []
arguments_typed env (w ∷ ws) [] = []
arguments_typed env (w ∷ ws) (x ∷ xs) = record { width = w; at = λ inputs. assigned (env inputs) w x } ∷ arguments_typed env ws xs

-- ---- TIE functions

-- the sum of two expressions and a carry
abbrev pub add_typed : Typed → Typed → Typed → Typed
add_typed a b c = record { width = max a.width b.width; at = λ inputs. (a.at inputs + b.at inputs + c.at inputs) % 2 ^ max a.width b.width }

-- the arm of the number that the first expression gives
abbrev pub mux_typed : Typed → List Typed → Typed
mux_typed s arms = record { width = greatest_size (widths_of arms); at = λ inputs. (arm arms (s.at inputs)).at inputs }

abbrev pub tie_typed : TieFunction → List Typed → Typed
tie_typed tie.Add ts = add_typed (arm ts 0) (arm ts 1) (arm ts 2)
tie_typed tie.Mul ts = mul_meaning (arm ts 0) (arm ts 1) (arm ts 2)
tie_typed tie.Mux ts = mux_typed (arm ts 0) (drop 1 ts)

-- the count of arguments and their widths go together
abbrev pub TieFits : TieFunction → List Typed → Type 0
TieFits tie.Add ts = (length ts ≡ 3) × ((arm ts 2).width ≡ 1)
TieFits tie.Mul ts = (length ts ≡ 3) × ((arm ts 2).width ≡ 1) × ((arm ts 0).width + (arm ts 1).width ≤ 128)
TieFits tie.Mux ts = ((arm ts 0).width ≤ 4) × (length ts ≡ 2 ^ (arm ts 0).width + 1)
