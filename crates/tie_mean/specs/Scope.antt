-- What the names that an expression sees mean to sizes.
use Rattle.std.specs.Prelude.{ℕ, Bool, List}

-- A name is its bytes. One that isn't seen has width 0 and is no table.
pub record Widths : Type 0 where
  -- of a name that is read
  pub name : List ℕ → ℕ
  -- of what a call of a function gives
  pub function : List ℕ → ℕ
  -- of the parameters of a function, in order
  pub parameters : List ℕ → List ℕ
  -- of the entries of a table
  pub table : List ℕ → ℕ
  pub is_table : List ℕ → Bool
