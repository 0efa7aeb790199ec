-- Where a name was last set.
use Rattle.std.specs.Borrow.{Bor}
use Rattle.std.specs.Prelude.{ℕ, zero, suc, if◌then◌else◌, List, Option, Some, None}
use Rattle.std.specs.Prelude.{map}
use Rattle.tie_mean.specs.Names.{Setting, setting_at, is_named}
use Rattle.tie_grammar.specs.declared.symbol.Leaf.{Leaf}
use Rattle.tie_grammar.specs.declared.tree.Expr.{Expr}
use Rattle.tie_grammar.specs.declared.tree.Item.{Item}

abbrev pub setter_or : Option Setting → ℕ → List ℕ → Option ℕ → Option ℕ
setter_or None k name earlier = earlier
setter_or (Some s) k name earlier = if is_named name s.name then Some k else earlier

-- the last of the first k items that sets this name
abbrev pub setter : List Item → ℕ → List ℕ → Option ℕ
setter items zero name = None
setter items (suc k) name = setter_or (setting_at items k) k name (setter items k name)

-- the names that leaves spell
abbrev pub leaf_names : List (Bor Leaf) → List (List ℕ)
leaf_names leaves = map (λ leaf. leaf.now.bytes) leaves

-- what `give` makes of a setting, where there is one
abbrev pub give_setting : {A : Type 0} → ((List ℕ → A) → Leaf → Expr → A) → (List ℕ → A) → Option Setting → A → A
give_setting give names None otherwise = otherwise
give_setting give names (Some s) otherwise = give names s.name s.value

-- what `give` makes of the setting of a number, where there is one
abbrev pub give_at : {A : Type 0} → ((List ℕ → A) → Leaf → Expr → A) → (ℕ → List ℕ → A) → List Item → Option ℕ → A → A
give_at give names items None otherwise = otherwise
give_at give names items (Some k) otherwise = give_setting give (names k) (setting_at items k) otherwise
