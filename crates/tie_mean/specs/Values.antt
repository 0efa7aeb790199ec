-- The value of an expression in a size, by IEEE 1364-2005 for unsigned operands, on whole numbers.
use Rattle.std.specs.Prelude.{ℕ, ◌+◌, ◌*◌, ◌%◌, ◌^◌, Bool, true, false, ◌&&◌, ◌||◌, not, ◌==◌, nat_lt, nat_le, max, List, [], ◌∷◌, drop, length, map, sum, slice_index_or, Option, Some, None, unwrap_or}
use Rattle.std.specs.List.{list_all}
use Rattle.tie_expr.specs.Operators.{bit, one_value, two_value, shifted_left, shifted_right, choose_value, join_value, part_value, lookup_value, repeat_value, mul_value}
use Rattle.tie_expr.specs.declared.ops.Op1.TheVariants as one
use Rattle.tie_expr.specs.declared.ops.Op2.TheVariants as two
use Rattle.tie_mean.specs.Literals.{literal_value, literal_width, literal_sound, is_width}
use Rattle.tie_mean.specs.Scope.{Widths}
use Rattle.tie_mean.specs.Sizes.{bounded, unary_size, binary_size, select_size, index_size, tie_size}
use Rattle.tie_grammar.specs.declared.symbol.Leaf.{Leaf}
use Rattle.tie_grammar.specs.declared.symbol.TieFunction.{TieFunction}
use Rattle.tie_grammar.specs.declared.symbol.TieFunction.TheVariants as tie
use Rattle.tie_grammar.specs.declared.tree.Literal.{Literal}
use Rattle.tie_grammar.specs.declared.tree.Literal.TheVariants as l
use Rattle.tie_grammar.specs.declared.tree.UnaryOp.{UnaryOp}
use Rattle.tie_grammar.specs.declared.tree.UnaryOp.TheVariants as unary
use Rattle.tie_grammar.specs.declared.tree.BinaryOp.{BinaryOp}
use Rattle.tie_grammar.specs.declared.tree.BinaryOp.TheVariants as op
use Rattle.tie_grammar.specs.declared.tree.Expr.{Expr}
use Rattle.tie_grammar.specs.declared.tree.Expr.TheOpen.{Expr-F}
use Rattle.tie_grammar.specs.declared.tree.Expr.TheFolds.{fold-Expr}

-- what the names that an expression sees stand for
pub record Values : Type 0 where
  -- the value of a name that is read
  pub name : List ℕ → ℕ
  -- what a call of a function gives on the values of its arguments
  pub call : List ℕ → List ℕ → ℕ
  -- the entries of a table
  pub table : List ℕ → List ℕ

-- an expression: its self size, the number that it is, if it is one, and its value in a size
pub record Meaning : Type 0 where
  pub size : ℕ
  pub number : Option ℕ
  -- each size in it is from 1 to 128, its names are known, its selections and counts of arguments are right
  pub sized : Bool
  pub at : Values → ℕ → ℕ

-- the value of an expression in its own size
abbrev pub own : Values → Meaning → ℕ
own env x = x.at env x.size

-- ---- operators

-- `~` is valued in the size of its context, all other signs look at their operand in its own size a
abbrev pub unary_side : UnaryOp → ℕ → ℕ → ℕ
unary_side unary.Not n a = n
unary_side _ n a = a

-- on an operand x that was valued in size w
abbrev pub unary_value : UnaryOp → ℕ → ℕ → ℕ
unary_value unary.Not w x = one_value one.Not w x
unary_value unary.LogicalNot w x = one_value one.IsZero w x
unary_value unary.ReduceAnd w x = one_value one.AndAll w x
unary_value unary.ReduceOr w x = one_value one.OrAll w x
unary_value unary.ReduceXor w x = one_value one.XorAll w x

-- the size in which the left side is valued, in a context of size n, where the sides have sizes a and b
abbrev pub left_side : BinaryOp → ℕ → ℕ → ℕ → ℕ
left_side op.LogicalOr n a b = a
left_side op.LogicalAnd n a b = a
left_side op.Equal n a b = max a b
left_side op.NotEqual n a b = max a b
left_side op.Less n a b = max a b
left_side op.LessEqual n a b = max a b
left_side op.Greater n a b = max a b
left_side op.GreaterEqual n a b = max a b
left_side _ n a b = n

-- and the right side
abbrev pub right_side : BinaryOp → ℕ → ℕ → ℕ → ℕ
right_side op.LogicalOr n a b = b
right_side op.LogicalAnd n a b = b
right_side op.Equal n a b = max a b
right_side op.NotEqual n a b = max a b
right_side op.Less n a b = max a b
right_side op.LessEqual n a b = max a b
right_side op.Greater n a b = max a b
right_side op.GreaterEqual n a b = max a b
right_side op.ShiftLeft n a b = b
right_side op.ShiftRight n a b = b
right_side _ n a b = n

-- a number that isn't 0 holds
abbrev pub holds : ℕ → Bool
holds x = nat_lt 0 x

-- in a context of size n, on the values of the sides
abbrev pub binary_value : BinaryOp → ℕ → ℕ → ℕ → ℕ
binary_value op.LogicalOr n x y = bit (holds x || holds y)
binary_value op.LogicalAnd n x y = bit (holds x && holds y)
binary_value op.Or n x y = two_value two.Or n x y
binary_value op.Xor n x y = two_value two.Xor n x y
binary_value op.And n x y = two_value two.And n x y
binary_value op.Equal n x y = bit (x == y)
binary_value op.NotEqual n x y = bit (not (x == y))
binary_value op.Less n x y = bit (nat_lt x y)
binary_value op.LessEqual n x y = bit (nat_le x y)
binary_value op.Greater n x y = bit (nat_lt y x)
binary_value op.GreaterEqual n x y = bit (nat_le y x)
binary_value op.ShiftLeft n x y = shifted_left n x y
binary_value op.ShiftRight n x y = shifted_right n x y
binary_value op.Add n x y = two_value two.Add n x y
binary_value op.Subtract n x y = two_value two.Sub n x y
binary_value op.Multiply n x y = two_value two.Mul n x y

abbrev pub unary_meaning : UnaryOp → Meaning → Meaning
unary_meaning o x = record {
  size = unary_size o x.size;
  number = None;
  sized = x.sized;
  at = λ env n. unary_value o (unary_side o n x.size) (x.at env (unary_side o n x.size));
}

abbrev pub binary_meaning : BinaryOp → Meaning → Meaning → Meaning
binary_meaning o x y = record {
  size = binary_size o x.size y.size;
  number = None;
  sized = x.sized && y.sized;
  at = λ env n. binary_value o n (x.at env (left_side o n x.size y.size)) (y.at env (right_side o n x.size y.size));
}

-- ---- lists

-- the sizes of some expressions
abbrev pub sizes_of : List Meaning → List ℕ
sizes_of xs = map (λ x. x.size) xs

-- parts behind each other, the first highest, each in its own size
abbrev pub concat_value : Values → List Meaning → ℕ
concat_value env [] = 0
concat_value env (x ∷ xs) = join_value (own env x) (sum (sizes_of xs)) (concat_value env xs)

-- an expression that stands where there is none
abbrev pub no_meaning : Meaning
no_meaning = record { size = 0; number = None; sized = false; at = λ env n. 0 }

abbrev pub part_at : List Meaning → ℕ → Meaning
part_at xs k = slice_index_or xs k no_meaning

-- the TIE functions, whose arguments are valued in their own sizes
abbrev pub tie_value : TieFunction → Values → List Meaning → ℕ
tie_value tie.Add env args = (own env (part_at args 0) + own env (part_at args 1) + own env (part_at args 2)) % 2 ^ tie_size tie.Add (sizes_of args)
tie_value tie.Mul env args = mul_value (part_at args 0).size (own env (part_at args 0)) (part_at args 1).size (own env (part_at args 1)) (own env (part_at args 2))
tie_value tie.Mux env args = own env (part_at (drop 1 args) (own env (part_at args 0)))

-- ---- assignments

-- an expression as it is assigned to a name of width w: valued in the greater of its size and w, and cut to w
abbrev pub assigned : Values → ℕ → Meaning → ℕ
assigned env w x = x.at env (max x.size w) % 2 ^ w

-- each argument of a call is assigned to its parameter
abbrev pub argument_values : Values → List ℕ → List Meaning → List ℕ
argument_values env [] xs = []
argument_values env (w ∷ ws) [] = []
argument_values env (w ∷ ws) (x ∷ xs) = assigned env w x ∷ argument_values env ws xs

-- ---- names

-- an entry of a table, 0 beyond them, or a bit
abbrev pub index_value : Bool → Values → Leaf → Meaning → ℕ
index_value true env name x = lookup_value (env.table name.bytes) (own env x)
index_value false env name x = part_value (env.name name.bytes) (unwrap_or x.number 0) (unwrap_or x.number 0)

-- a bare number
abbrev pub number_of : Literal → Option ℕ
number_of (l.Number leaf) = Some (bounded leaf)
number_of (l.Sized leaf) = None

-- a form that is valued in its own size whatever the context
abbrev pub alone : ℕ → Bool → (Values → ℕ) → Meaning
alone n sized value = record { size = n; number = None; sized = sized; at = λ env k. value env }

-- ---- what the rules demand

abbrev pub all_sized : List Meaning → Bool
all_sized xs = list_all (λ x. x.sized) xs

-- bits from `high` to `low` of a name
abbrev pub select_sized : ℕ → ℕ → ℕ → Bool
select_sized width high low = is_width width && (nat_le low high && nat_lt high width)

-- the bit of a number
abbrev pub bit_sized : ℕ → Option ℕ → Bool
bit_sized width None = false
bit_sized width (Some n) = is_width width && nat_lt n width

abbrev pub index_sized : Bool → Widths → Leaf → Meaning → Bool
index_sized true w name x = x.sized
index_sized false w name x = bit_sized (w.name name.bytes) x.number

-- an argument for each parameter
abbrev pub arguments_sized : List ℕ → List Meaning → Bool
arguments_sized [] [] = true
arguments_sized [] (x ∷ xs) = false
arguments_sized (w ∷ ws) [] = false
arguments_sized (w ∷ ws) (x ∷ xs) = (is_width w && x.sized) && arguments_sized ws xs

-- three arguments, the third of one bit; or a selector of 1 to 4 bits and an arm for each of its values
abbrev pub tie_sized : TieFunction → List Meaning → Bool
tie_sized tie.Add xs = all_sized xs && (length xs == 3 && (part_at xs 2).size == 1)
tie_sized tie.Mul xs = all_sized xs && (length xs == 3 && (part_at xs 2).size == 1)
tie_sized tie.Mux xs = all_sized xs && (nat_le (part_at xs 0).size 4 && length xs == 2 ^ (part_at xs 0).size + 1)

-- a form, from what its parts mean
abbrev pub form : Widths → Expr-F Meaning → Meaning
form w (Expr-F.Literal x) = record { size = literal_width x; number = number_of x; sized = literal_sound x; at = λ env n. literal_value x }
form w (Expr-F.Name name) = alone (w.name name.bytes) true (λ env. env.name name.bytes)
form w (Expr-F.Select name high low) =
    alone (select_size (bounded high) (bounded low)) (select_sized (w.name name.bytes) (bounded high) (bounded low)) (λ env. part_value (env.name name.bytes) (bounded high) (bounded low))
form w (Expr-F.Index name x) =
    alone (index_size w name) (index_sized (w.is_table name.bytes) w name x) (λ env. index_value (w.is_table name.bytes) env name x)
form w (Expr-F.Call name p args) =
    alone (w.function name.bytes) (arguments_sized (w.parameters name.bytes) args) (λ env. env.call name.bytes (argument_values env (w.parameters name.bytes) args))
form w (Expr-F.Tie word p args) = alone (tie_size word.function (sizes_of args)) (tie_sized word.function args) (λ env. tie_value word.function env args)
form w (Expr-F.Paren p x) = record x { number = None }
form w (Expr-F.Concat p parts) = alone (sum (sizes_of parts)) (all_sized parts) (λ env. concat_value env parts)
form w (Expr-F.Repeat p count q x) = alone (bounded count * x.size) x.sized (λ env. repeat_value x.size (own env x) (bounded count))
form w (Expr-F.Unary o p x) = unary_meaning o x
form w (Expr-F.Binary o x y) = binary_meaning o.op x y
form w (Expr-F.Conditional c x y) = record {
  size = max x.size y.size;
  number = None;
  sized = c.sized && (x.sized && y.sized);
  at = λ env n. choose_value (own env c) (x.at env n) (y.at env n);
}

-- every size is from 1 to 128
abbrev pub within : Meaning → Meaning
within m = record m { sized = is_width m.size && m.sized }

abbrev pub meaning_step : Widths → Expr-F Meaning → Meaning
meaning_step w x = within (form w x)

abbrev pub meaning : Widths → Expr → Meaning
meaning w = fold-Expr Meaning (meaning_step w)

-- the self size of an expression
abbrev pub size : Widths → Expr → ℕ
size w x = (meaning w x).size

abbrev pub sizes : Widths → List Expr → List ℕ
sizes w xs = sizes_of (map (meaning w) xs)
