-- How large a typed expression of a text grows, and how often it reads its inputs.
use Rattle.std.specs.Prelude.{◌≡◌, ℕ, ◌+◌, ◌*◌, ◌≤◌, ◌==◌, ◌++◌, ◌⊎◌, List, length, map, sum, Some, None}
use Rattle.std.specs.List.{All, count_by, flat_map, sum_by}
use Rattle.tie_expr.specs.Substitute.{IsOver}
use Rattle.tie_expr.specs.Tree.{inputs, size}
use Rattle.tie_expr.specs.declared.node.Node.{Node}
use Rattle.tie_grammar.specs.declared.tree.Expr.{Expr}
use Rattle.tie_mean.specs.Counts.{Seen, count, counts_of, weighted}

-- what bounds the names that an expression sees
pub record Bounds : Type 0 where
  -- the widths of the inputs
  pub widths : List ℕ
  -- what calls count
  pub seen : Seen
  -- what a name that is read counts
  pub names : List ℕ → ℕ
  -- what the input of a number is called
  pub input : ℕ → List ℕ
  -- how often a name that is read reads the input of a number
  pub reads : ℕ → List ℕ → ℕ

-- the nodes of an expression
abbrev pub nodes_of : Bounds → Expr → ℕ
nodes_of b x = count (counts_of None b.seen b.names) x

-- how often it reads the input of a number
abbrev pub reads_of : Bounds → ℕ → Expr → ℕ
reads_of b k x = count (counts_of (Some (b.input k)) b.seen (b.reads k)) x

-- the most nodes of an expression of an operation
abbrev pub node_limit : ℕ
node_limit = 4096

-- each counted node stands for at most so much of a typed expression's size
abbrev pub node_size : ℕ
node_size = 200

-- no typed expression of a text is larger
abbrev pub expression_limit : ℕ
expression_limit = node_size * node_limit

-- how often a typed expression reads the input of a number
abbrev pub occurrences : ℕ → Node → ℕ
occurrences k e = count_by (λ i. i.index == k) (inputs e)

-- it reads inputs of these widths, each at most so often, and there is room for more in a size
pub record IsWithin (widths : List ℕ) (room most : ℕ) (reads : ℕ → ℕ) (e : Node) : Type 0 where
  pub over : IsOver widths (inputs e)
  pub small : size e + room ≤ most
  pub often : (k : ℕ) → occurrences k e ≤ reads k

-- what is built of an expression of a text keeps its bounds, with room in the size of its nodes
abbrev pub IsBounded : Bounds → ℕ → Expr → Node → Type 0
IsBounded b room x e = IsWithin b.widths room (node_size * nodes_of b x) (λ k. reads_of b k x) e

-- ... of a name that is read
abbrev pub IsNameBounded : Bounds → ℕ → List ℕ → Node → Type 0
IsNameBounded b room name e = IsWithin b.widths room (node_size * b.names name) (λ k. b.reads k name) e

-- the size of a call: of what stands for it, and of its arguments, each as often as it counts
abbrev pub call_size : Bounds → List ℕ → List Node → ℕ
call_size b name args = node_size * b.seen.call name + weighted (b.seen.times name) 0 (map size args)

-- ... of a call
abbrev pub IsCallBounded : Bounds → ℕ → List ℕ → List Node → Node → Type 0
IsCallBounded b room name args e = IsWithin b.widths room (call_size b name args) (λ k. weighted (b.seen.times name) 0 (map (occurrences k) args)) e

-- room for what is built around a name or a call
abbrev pub name_room : ℕ
name_room = 190

-- ... around bits of a name
abbrev pub part_room : ℕ
part_room = 186

-- ... around an expression
abbrev pub room : ℕ
room = 110

-- ... around one that is assigned
abbrev pub assigned_room : ℕ
assigned_room = 100

-- ---- parts

-- it reads what the two read, in one order or the other
abbrev pub ReadsBoth : Node → Node → Node → Type 0
ReadsBoth a b e = (inputs e ≡ inputs a ++ inputs b) ⊎ (inputs e ≡ inputs b ++ inputs a)

-- it is made of some parts, and adds little to their size
pub record IsMadeOf (parts : List Node) (e : Node) : Type 0 where
  pub reads : inputs e ≡ flat_map inputs parts
  pub small : size e ≤ sum_by size parts + 4 * length parts + 64

-- some expressions keep bounds together, with room for each
pub record AreWithin (widths : List ℕ) (room most : ℕ) (reads : ℕ → ℕ) (es : List Node) : Type 0 where
  pub over : All (λ e. IsOver widths (inputs e)) es
  pub small : sum_by size es + room * length es ≤ most
  pub often : (k : ℕ) → sum_by (occurrences k) es ≤ reads k

-- ... as these expressions of a text
abbrev pub AreBounded : Bounds → List Expr → List Node → Type 0
AreBounded b xs es = AreWithin b.widths room (node_size * sum (map (nodes_of b) xs)) (λ k. sum (map (reads_of b k) xs)) es

-- the nodes of the arguments of a call, each as often as it counts
abbrev pub arguments_of : Bounds → List ℕ → List Expr → ℕ
arguments_of b name xs = weighted (b.seen.times name) 0 (map (nodes_of b) xs)

-- the arguments of a call keep their bounds
pub record AreArgumentsBounded (b : Bounds) (name : List ℕ) (xs : List Expr) (es : List Node) : Type 0 where
  pub over : All (λ e. IsOver b.widths (inputs e)) es
  pub small : weighted (b.seen.times name) 0 (map size es) ≤ node_size * arguments_of b name xs
  pub often : (k : ℕ) → weighted (b.seen.times name) 0 (map (occurrences k) es) ≤ weighted (b.seen.times name) 0 (map (reads_of b k) xs)
