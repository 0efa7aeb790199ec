-- The grammar, and the first fault of symbols that are no text of it.
use Rattle.std.specs.Prelude.{◌≡◌, ◌≢◌, ℕ, ◌+◌, ◌≤◌, ◌<◌, List, ◌++◌, ◌⊎◌, length, take, slice_get, Some}
use Rattle.tie_grammar.specs.declared.symbol.Mark.TheVariants as m
use Rattle.tie_grammar.specs.declared.symbol.Symbol.{Symbol}
use Rattle.tie_grammar.specs.declared.symbol.Symbol.TheVariants as s
use Rattle.tie_grammar.specs.declared.tree.Tree.{Tree}
use Rattle.tie_grammar.specs.Spelling.{tree, IsText}

-- the symbols are those of the tree
pub record IsTree (ts : List Symbol) (t : Tree) : Type 0 where
  pub spelled : tree t ≡ ts
  pub fits : IsText t

-- some text of the grammar begins with these symbols
abbrev pub GoesOn : List Symbol → Type 0
GoesOn front = (t : Tree) × (more : List Symbol) × IsTree (front ++ more) t

-- the symbol at this place is the 1,025th of an expression: expressions stand only between a `=` and a `;`, and neither stands inside one
pub record IsBeyond (ts : List Symbol) (i : ℕ) : Type 0 where
  pub start : ℕ
  pub count : start + 1025 ≡ i
  pub within : i < length ts
  pub opened : slice_get ts start ≡ Some (s.Mark m.Equals)
  pub goes : (k : ℕ) → start < k → k ≤ i → slice_get ts k ≢ Some (s.Mark m.Semicolon)

-- a text goes on to the symbol at this place within the limit, and none goes on after it, or the limit is passed there
pub record IsFault (ts : List Symbol) (i : ℕ) : Type 0 where
  pub within : i ≤ length ts
  pub before : GoesOn (take i ts)
  pub allowed : (k : ℕ) → k < i → IsBeyond ts k → ⊥
  pub here : i < length ts → (GoesOn (take (i + 1) ts) → ⊥) ⊎ IsBeyond ts i
  pub ends : i ≡ length ts → (t : Tree) → IsTree ts t → ⊥
