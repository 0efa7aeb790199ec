-- Which items of a body are needed, and what is made of them.
use Rattle.std.specs.Prelude.{◌≡◌, ℕ, ◌<◌, ◌≤◌, Bool, true, false, List, [], ◌∷◌, length, map, Option, Some, None, is_some}
use Rattle.tie_expr.specs.Tree as typed
use Rattle.tie_expr.specs.declared.node.Node.{Node}
use Rattle.tie_mean.specs.Kept.{kept}
use Rattle.tie_mean.specs.Names.{Setting, setting_at, has}
use Rattle.tie_mean.specs.Setters.{setter}
use Rattle.tie_translate.specs.Translation.{assigned_in}
use Rattle.tie_translate.specs.Bounds.{Bounds, IsBounded, nodes_of, node_limit, assigned_room}
use Rattle.tie_grammar.specs.declared.tree.Item.{Item}
use Rattle.tie_results.specs.Reads.{item_uses, used_at, is_marked, is_among}
use Rattle.tie_results.specs.Bodies.{Body, widths_of, env_behind, item_count, last_count, made_at}
use Rattle.tie_results.specs.declared.uses.Uses.{Uses}

-- the uses of these items, and what names are last set by
pub record AreUses (is_table : List ℕ → Bool) (inputs : List (List ℕ)) (items : List Item) (u : Uses) : Type 0 where
  pub many : length u.items.items ≡ length items
  pub uses : (k : ℕ) → k < length items → used_at (map (λ ks. ks.items) u.items.items) k ≡ item_uses is_table inputs items k
  pub setters : (q : List ℕ) → kept u.setters q ≡ setter items (length items) q

-- with an item are marked those that it uses, and marked ones have few nodes
pub record IsPlan (b : Body) (marks : List Bool) : Type 0 where
  pub many : length marks ≡ length b.items
  pub closed : (k j : ℕ) → is_marked marks k ≡ true → is_among (item_uses (widths_of b).is_table b.inputs b.items k) j ≡ true → is_marked marks j ≡ true
  pub small : (k : ℕ) → is_marked marks k ≡ true → item_count b None k ≤ node_limit

-- the nodes of what is set are few enough
abbrev pub IsFew : Bounds → Option Setting → Type 0
IsFew bounds None = Unit {0}
IsFew bounds (Some s) = nodes_of bounds s.value ≤ node_limit

-- the expression that is made of what is set at a place of a body
pub record IsOne (b : Body) (k : ℕ) (bounds : Bounds) (s : Setting) (e : Node) : Type 0 where
  pub means : typed.meaning e ≡ assigned_in (widths_of b) (env_behind b k) (b.name s.name.bytes) s.value
  pub bounded : IsBounded bounds assigned_room s.value e

abbrev pub IsOneOf : Body → ℕ → Bounds → Option Setting → Option Node → Type 0
IsOneOf b k bounds None o = o ≡ None
IsOneOf b k bounds (Some s) None = ⊥
IsOneOf b k bounds (Some s) (Some e) = IsOne b k bounds s e

-- something was made of each of the first marked items that sets a name
abbrev pub ArePresent : Body → List Bool → List (Option Node) → Type 0
ArePresent b marks made = (k : ℕ) → k < length made → is_marked marks k ≡ true → is_some (setting_at b.items k) ≡ true → is_some (made_at made k) ≡ true

-- something was made of the item that set a name
abbrev pub is_there : List (Option Node) → Option ℕ → Bool
is_there made None = false
is_there made (Some k) = is_some (made_at made k)

-- the item that set a name is marked
abbrev pub is_ready : List Bool → Option ℕ → Bool
is_ready marks None = false
is_ready marks (Some k) = is_marked marks k
