-- The body of a function or an operation, and the typed expressions that are made of it.
use Rattle.std.specs.Prelude.{◌≡◌, ℕ, suc, ◌+◌, ◌*◌, ◌%◌, ◌^◌, ◌<◌, ◌≤◌, Bool, true, false, ◌&&◌, not, if◌then◌else◌, List, [], ◌∷◌, length, map, slice_get, slice_index_or, Option, Some, None, is_none, option_map}
use Rattle.std.specs.Str.{bytes_eq}
use Rattle.std.specs.List.{All}
use Rattle.tie_expr.specs.Word.{Word}
use Rattle.tie_expr.specs.Meaning.{Meaning as Typed}
use Rattle.tie_expr.specs.Substitute.{IsOver}
use Rattle.tie_expr.specs.Tree as typed
use Rattle.tie_expr.specs.declared.node.Node.{Node}
use Rattle.tie_mean.specs.Scope.{Widths}
use Rattle.tie_mean.specs.Names.{Setting, setting_at, has, is_among, width_in, function_declared, table_declared, parameters_in}
use Rattle.tie_mean.specs.Setters.{setter, give_setting}
use Rattle.tie_mean.specs.Counts.{Counted, Seen, seen_behind, value_count, counts_behind, set_count}
use Rattle.tie_mean.specs.Operations.{entries_in, values_behind, last_value, calls_behind}
use Rattle.tie_mean.specs.Operations as operations
use Rattle.tie_translate.specs.Translation.{Env, assigned_in}
use Rattle.tie_translate.specs.Bounds.{Bounds, IsWithin, occurrences, node_size, assigned_room}
use Rattle.tie_grammar.specs.declared.tree.Item.{Item}
use Rattle.tie_grammar.specs.declared.tree.Table.{Table}
use Rattle.tie_grammar.specs.declared.tree.Function.{Function}
use Rattle.tie_grammar.specs.declared.tree.Tree.{Tree}

-- what calls are: the width of what they give and the widths of their parameters, what they give, and what they count
pub record Calls : Type 0 where
  pub width : List ℕ → ℕ
  pub parameters : List ℕ → List ℕ
  pub gives : List ℕ → List ℕ → ℕ
  pub counts : Seen

-- calls behind the first k declarations of a text with these functions and tables
abbrev pub calls_of : Tree → List Function → List Table → ℕ → Calls
calls_of t functions tables k = record {
  width = width_in (map function_declared functions);
  parameters = parameters_in functions;
  gives = calls_behind t t.declarations k;
  counts = seen_behind (is_among (map table_declared tables)) t.declarations k;
}

pub record Body : Type 0 where
  -- the widths of names
  pub name : List ℕ → ℕ
  pub calls : Calls
  pub tables : List Table
  pub inputs : List (List ℕ)
  pub items : List Item

abbrev pub widths_of : Body → Widths
widths_of b = record {
  name = b.name;
  function = b.calls.width;
  parameters = b.calls.parameters;
  table = width_in (map table_declared b.tables);
  is_table = is_among (map table_declared b.tables);
}

abbrev pub seen_of : Body → operations.Seen
seen_of b = record { widths = widths_of b; call = b.calls.gives; table = entries_in b.tables }

abbrev pub input_widths : Body → List ℕ
input_widths b = map b.name b.inputs

-- what an input is called
abbrev pub input_name : Body → ℕ → List ℕ
input_name b i = slice_index_or b.inputs i []

-- the number of the first input of a name
abbrev pub input_number : List (List ℕ) → List ℕ → Option ℕ
input_number [] name = None
input_number (n ∷ ns) name = if bytes_eq n name then Some 0 else option_map suc (input_number ns name)

-- the values of inputs of these widths
abbrev pub input_values : List ℕ → List Word → List ℕ
input_values [] words = []
input_values (w ∷ ws) [] = []
input_values (w ∷ ws) (x ∷ xs) = x.value % 2 ^ w ∷ input_values ws xs

abbrev pub inputs_of : Body → List Word → List ℕ
inputs_of b words = input_values (input_widths b) words

-- what names stand for behind k items
abbrev pub names_behind : Body → List Word → ℕ → List ℕ → ℕ
names_behind b words k = values_behind (seen_of b) b.inputs (inputs_of b words) b.items k

abbrev pub env_behind : Body → ℕ → Env
env_behind b k = λ words. record { name = names_behind b words k; call = b.calls.gives; table = entries_in b.tables }

-- what names count behind k items
abbrev pub name_counts : Body → Counted → ℕ → List ℕ → ℕ
name_counts b what k = counts_behind what b.calls.counts b.inputs b.items k

-- what a setting counts behind k items
abbrev pub setting_count : Body → Counted → ℕ → Option Setting → ℕ
setting_count b what k o = give_setting (value_count what b.calls.counts) (name_counts b what k) o 0

abbrev pub item_count : Body → Counted → ℕ → ℕ
item_count b what k = setting_count b what k (setting_at b.items k)

-- a typed expression keeps bounds that are given for all nodes and for the reads of each input
abbrev pub Keeps : Body → (Counted → ℕ) → Node → Type 0
Keeps b counts e = IsWithin (input_widths b) assigned_room (node_size * counts None) (λ i. counts (Some (input_name b i))) e

-- ---- items

-- a typed expression of what is set behind k items
pub record IsMade (b : Body) (k : ℕ) (s : Setting) (e : Node) : Type 0 where
  pub means : typed.meaning e ≡ assigned_in (widths_of b) (env_behind b k) (b.name s.name.bytes) s.value
  pub bounds : Keeps b (λ what. setting_count b what k (Some s)) e

abbrev pub IsMadeOf : Body → ℕ → Option Setting → Node → Type 0
IsMadeOf b k None e = ⊥
IsMadeOf b k (Some s) e = IsMade b k s e

abbrev pub made_of : Option (Option Node) → Option Node
made_of None = None
made_of (Some o) = o

-- what was made of the item of a number
abbrev pub made_at : List (Option Node) → ℕ → Option Node
made_at made k = made_of (slice_get made k)

abbrev pub AreMade : Body → List (Option Node) → Type 0
AreMade b made = (k : ℕ) (e : Node) → made_at made k ≡ Some e → IsMadeOf b k (setting_at b.items k) e

-- nothing was made of the item that set a name
abbrev pub lacks : List (Option Node) → Option ℕ → Bool
lacks made None = false
lacks made (Some k) = is_none (made_at made k)

-- what names count behind the items of which expressions were made; names that have none count too much
abbrev pub known_counts : Body → List (Option Node) → ℕ → List ℕ → ℕ
known_counts b made k name = if not (has b.inputs name) && lacks made (setter b.items k name) then 5000 else name_counts b None k name

abbrev pub bounds_of : Body → List (Option Node) → ℕ → Bounds
bounds_of b made k = record {
  widths = input_widths b;
  seen = b.calls.counts;
  names = known_counts b made k;
  input = input_name b;
  reads = λ i. name_counts b (Some (input_name b i)) k;
}

-- ---- results

-- what a name is last set to
abbrev pub last_typed : Body → List ℕ → Typed
last_typed b name = record { width = b.name name; at = λ words. last_value (seen_of b) b.inputs (inputs_of b words) b.items name }

abbrev pub last_count : Body → List ℕ → Counted → ℕ
last_count b name what = set_count what b.calls.counts b.inputs b.items name

pub record IsResult (b : Body) (name : List ℕ) (e : Node) : Type 0 where
  pub means : typed.meaning e ≡ last_typed b name
  pub bounds : Keeps b (last_count b name) e

-- one expression for each of these names
abbrev pub AreResultsOf : Body → List (List ℕ) → List Node → Type 0
AreResultsOf b [] [] = Unit {0}
AreResultsOf b [] (e ∷ es) = ⊥
AreResultsOf b (n ∷ ns) [] = ⊥
AreResultsOf b (n ∷ ns) (e ∷ es) = IsResult b n e × AreResultsOf b ns es

-- ---- calls

-- an expression over the parameters of a function, of what its calls give
pub record IsCallee (c : Calls) (name : List ℕ) (e : Node) : Type 0 where
  pub width : (typed.meaning e).width ≡ c.width name
  pub over : IsOver (c.parameters name) (typed.inputs e)
  pub values : (words : List Word) → map (λ w. w.width) words ≡ c.parameters name → All (λ w. w.value < 2 ^ w.width) words
      → (typed.meaning e).at words ≡ c.gives name (map (λ w. w.value) words)
  pub small : typed.size e + 300 ≤ node_size * c.counts.call name
  pub often : (i : ℕ) → occurrences i e + 1 ≤ c.counts.times name i

-- no function of this name was declared: a call gives 0
pub record IsUnknown (c : Calls) (name : List ℕ) : Type 0 where
  pub gives : (args : List ℕ) → c.gives name args ≡ 0
  pub call : c.counts.call name ≡ 1
  pub times : (i : ℕ) → c.counts.times name i ≡ 1

-- no expression is kept for functions of too many nodes
abbrev pub IsKept : Calls → List ℕ → Option Node → Type 0
IsKept c name None = 4096 < c.counts.call name
IsKept c name (Some e) = IsCallee c name e
