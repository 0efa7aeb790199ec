-- The nodes of an expression once wires and calls are replaced by their expressions.
use Rattle.std.specs.Prelude.{ℕ, zero, suc, ◌+◌, ◌*◌, Bool, if◌then◌else◌, List, [], ◌∷◌, length, sum, map, min, Option, Some, None}
use Rattle.std.specs.Str.{bytes_eq}
use Rattle.tie_mean.specs.Names.{is_named, behind, last_set, table_named, parameter_names, function_at, read, written}
use Rattle.tie_grammar.specs.declared.symbol.Leaf.{Leaf}
use Rattle.tie_grammar.specs.declared.tree.Item.{Item}
use Rattle.tie_grammar.specs.declared.tree.Parameter.{Parameter}
use Rattle.tie_grammar.specs.declared.tree.Function.{Function}
use Rattle.tie_grammar.specs.declared.tree.Operation.{Operation}
use Rattle.tie_grammar.specs.declared.tree.Decl.{Decl}
use Rattle.tie_grammar.specs.declared.tree.Tree.{Tree}
use Rattle.tie_grammar.specs.declared.tree.Expr.{Expr}
use Rattle.tie_grammar.specs.declared.tree.Expr.TheOpen.{Expr-F}
use Rattle.tie_grammar.specs.declared.tree.Expr.TheFolds.{fold-Expr}

-- what is counted: all nodes, or the reads of one parameter
abbrev pub Counted : Type 0
Counted = Option (List ℕ)

-- a number of nodes counts, where nodes are counted
abbrev pub nodes : Counted → ℕ → ℕ
nodes None n = n
nodes (Some p) n = 0

-- a name that nothing replaces
abbrev pub lone_name : Counted → List ℕ → ℕ
lone_name None name = 1
lone_name (Some p) name = if bytes_eq p name then 1 else 0

-- what names count
pub record Counts : Type 0 where
  pub counted : Counted
  -- a name that is read, with what replaces it
  pub name : List ℕ → ℕ
  -- a call besides its arguments
  pub call : List ℕ → ℕ
  -- how often the argument of a number counts in a call: once, and at each read of its parameter
  pub times : List ℕ → ℕ → ℕ
  pub is_table : List ℕ → Bool

-- the arguments of a call from number i on, each as often as it counts
abbrev pub weighted : (ℕ → ℕ) → ℕ → List ℕ → ℕ
weighted times i [] = 0
weighted times i (n ∷ ns) = times i * n + weighted times (i + 1) ns

-- a look-up counts three, a bit of a name one more than the name
abbrev pub index_count : Counts → Leaf → ℕ → ℕ
index_count c name x = if c.is_table name.bytes then nodes c.counted 3 + x else nodes c.counted 1 + c.name name.bytes

-- a form, from the counts of its parts; brackets count nothing
abbrev pub count_step : Counts → Expr-F ℕ → ℕ
count_step c (Expr-F.Literal x) = nodes c.counted 1
count_step c (Expr-F.Name name) = c.name name.bytes
count_step c (Expr-F.Select name high low) = nodes c.counted 1 + c.name name.bytes
count_step c (Expr-F.Index name x) = index_count c name x
count_step c (Expr-F.Call name p args) = c.call name.bytes + weighted (c.times name.bytes) 0 args
count_step c (Expr-F.Tie word p args) = nodes c.counted 1 + sum args
count_step c (Expr-F.Paren p x) = x
count_step c (Expr-F.Concat p parts) = nodes c.counted 1 + sum parts
count_step c (Expr-F.Repeat p count q x) = nodes c.counted 1 + x
count_step c (Expr-F.Unary o p x) = nodes c.counted 1 + x
count_step c (Expr-F.Binary o a b) = nodes c.counted 1 + (a + b)
count_step c (Expr-F.Conditional x a b) = nodes c.counted 1 + (x + (a + b))

abbrev pub count : Counts → Expr → ℕ
count c = fold-Expr ℕ (count_step c)

-- ---- with an environment

-- what calls count, and which names are tables
pub record Seen : Type 0 where
  pub call : List ℕ → ℕ
  pub times : List ℕ → ℕ → ℕ
  pub is_table : List ℕ → Bool

abbrev pub counts_of : Counted → Seen → (List ℕ → ℕ) → Counts
counts_of what seen names = record { counted = what; name = names; call = λ name. nodes what (seen.call name); times = seen.times; is_table = seen.is_table }

abbrev pub value_count : Counted → Seen → (List ℕ → ℕ) → Leaf → Expr → ℕ
value_count what seen names name x = count (counts_of what seen names) x

-- a name that is replaced counts one besides its value
abbrev pub replaced_count : Counted → Seen → (List ℕ → ℕ) → Leaf → Expr → ℕ
replaced_count what seen names name x = nodes what 1 + value_count what seen names name x

-- what names count behind the first k items of a body with these inputs
abbrev pub counts_behind : Counted → Seen → List (List ℕ) → List Item → ℕ → List ℕ → ℕ
counts_behind what seen inputs items k = behind inputs (replaced_count what seen) (lone_name what) items k

-- the count of the value that a name is last set to
abbrev pub set_count : Counted → Seen → List (List ℕ) → List Item → List ℕ → ℕ
set_count what seen inputs items name = last_set (value_count what seen) (counts_behind what seen inputs items) 0 items (length items) name

-- in the body of a function
abbrev pub body_count : Counted → Seen → Function → ℕ
body_count what seen f = set_count what seen (parameter_names f) f.items f.name.bytes

-- the reads of the parameter of a number, 0 where there is none
abbrev pub reads_at : Seen → Function → List Parameter → ℕ → ℕ
reads_at seen f [] i = 0
reads_at seen f (p ∷ ps) zero = body_count (Some p.name.bytes) seen f
reads_at seen f (p ∷ ps) (suc i) = reads_at seen f ps i

-- a call of the next function is one node and its body, beside the functions that are seen before it
abbrev pub call_with : Seen → Option Function → List ℕ → ℕ
call_with seen None name = seen.call name
call_with seen (Some f) name = if is_named name f.name then 1 + body_count None seen f else seen.call name

-- each argument stands at each read of its parameter
abbrev pub times_with : Seen → Option Function → List ℕ → ℕ → ℕ
times_with seen None name i = seen.times name i
times_with seen (Some f) name i = if is_named name f.name then 1 + reads_at seen f f.parameters i else seen.times name i

abbrev pub seen_with : Seen → Option Function → Seen
seen_with seen f = record { call = call_with seen f; times = times_with seen f; is_table = seen.is_table }

-- what is seen behind the first k of some declarations
abbrev pub seen_behind : (List ℕ → Bool) → List Decl → ℕ → Seen
seen_behind is_table decls zero = record { call = λ name. 1; times = λ name i. 1; is_table = is_table }
seen_behind is_table decls (suc k) = seen_with (seen_behind is_table decls k) (function_at decls k)

abbrev pub operation_seen : Tree → Seen
operation_seen t = seen_behind (table_named t) t.declarations (length t.declarations)

-- the nodes of the results of an operation together
abbrev pub operation_count : Tree → Operation → ℕ
operation_count t o = sum (map (set_count None (operation_seen t) (read o) o.items) (written o))

-- counts beyond 5000 aren't told apart
abbrev pub limited : ℕ → ℕ
limited n = min n 5000
