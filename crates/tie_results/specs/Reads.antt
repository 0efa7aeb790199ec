-- The names that an expression reads, and the items that set them.
use Rattle.std.specs.Prelude.{◌≡◌, ℕ, ◌<◌, ◌==◌, Bool, true, false, if◌then◌else◌, List, [], ◌∷◌, ◌++◌, length, slice_index_or, Option, Some, None}
use Rattle.std.specs.List.{list_any, flat_map}
use Rattle.std.specs.Option.{option_to_list}
use Rattle.tie_mean.specs.Names.{Setting, has, setting_at}
use Rattle.tie_mean.specs.Setters.{setter}
use Rattle.tie_grammar.specs.declared.tree.Item.{Item}
use Rattle.tie_grammar.specs.declared.tree.Expr.{Expr}
use Rattle.tie_grammar.specs.declared.tree.Expr.TheOpen.{Expr-F}
use Rattle.tie_grammar.specs.declared.tree.Expr.TheFolds.{fold-Expr}

abbrev pub all_of : List (List (List ℕ)) → List (List ℕ)
all_of parts = flat_map (λ x. x) parts

-- a form, from the names that its parts read; the number of a bit is no part
abbrev pub reads_step : (List ℕ → Bool) → Expr-F (List (List ℕ)) → List (List ℕ)
reads_step is_table (Expr-F.Literal x) = []
reads_step is_table (Expr-F.Name name) = name.bytes ∷ []
reads_step is_table (Expr-F.Select name high low) = name.bytes ∷ []
reads_step is_table (Expr-F.Index name x) = if is_table name.bytes then x else name.bytes ∷ []
reads_step is_table (Expr-F.Call name p args) = all_of args
reads_step is_table (Expr-F.Tie word p args) = all_of args
reads_step is_table (Expr-F.Paren p x) = x
reads_step is_table (Expr-F.Concat p parts) = all_of parts
reads_step is_table (Expr-F.Repeat p count q x) = x
reads_step is_table (Expr-F.Unary o p x) = x
reads_step is_table (Expr-F.Binary o a b) = a ++ b
reads_step is_table (Expr-F.Conditional x a b) = x ++ (a ++ b)

-- the names that an expression reads where these names are tables
abbrev pub names_read : (List ℕ → Bool) → Expr → List (List ℕ)
names_read is_table = fold-Expr (List (List ℕ)) (reads_step is_table)

-- the items that set a name, unless it is an input
abbrev pub used_by : (List ℕ → Option ℕ) → List (List ℕ) → List ℕ → List ℕ
used_by setter inputs name = if has inputs name then [] else option_to_list (setter name)

-- the items that set some names
abbrev pub used : (List ℕ → Option ℕ) → List (List ℕ) → List (List ℕ) → List ℕ
used setter inputs names = flat_map (used_by setter inputs) names

abbrev pub setting_uses : (List ℕ → Bool) → List (List ℕ) → (List ℕ → Option ℕ) → Option Setting → List ℕ
setting_uses is_table inputs setter None = []
setting_uses is_table inputs setter (Some s) = used setter inputs (names_read is_table s.value)

-- the items that set the names which the item of a number reads
abbrev pub item_uses : (List ℕ → Bool) → List (List ℕ) → List Item → ℕ → List ℕ
item_uses is_table inputs items k = setting_uses is_table inputs (setter items k) (setting_at items k)

-- ---- which items are needed

-- a number is among these
abbrev pub is_among : List ℕ → ℕ → Bool
is_among ks k = list_any (λ j. j == k) ks

-- the numbers that a number uses
abbrev pub used_at : List (List ℕ) → ℕ → List ℕ
used_at uses k = slice_index_or uses k []

-- each uses earlier ones alone
abbrev pub UseEarlier : List (List ℕ) → Type 0
UseEarlier uses = (k j : ℕ) → is_among (used_at uses k) j ≡ true → j < k

abbrev pub is_marked : List Bool → ℕ → Bool
is_marked marks k = slice_index_or marks k false

-- what the last ones need is marked, and nothing else
pub record AreNeeded (uses : List (List ℕ)) (last : List ℕ) (marks : List Bool) : Type 0 where
  pub many : length marks ≡ length uses
  pub last_ones : (k : ℕ) → is_among last k ≡ true → is_marked marks k ≡ true
  pub closed : (k j : ℕ) → is_marked marks k ≡ true → is_among (used_at uses k) j ≡ true → is_marked marks j ≡ true
  -- a test that the last ones pass, and with each number those that it uses
  pub reached : (p : ℕ → Bool) → ((k : ℕ) → is_among last k ≡ true → p k ≡ true) → ((k j : ℕ) → p k ≡ true → is_among (used_at uses k) j ≡ true → p j ≡ true)
      → (k : ℕ) → is_marked marks k ≡ true → p k ≡ true
