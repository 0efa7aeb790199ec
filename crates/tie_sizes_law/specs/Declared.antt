-- The operations of a text.
use Rattle.std.specs.Prelude.{◌≡◌, ℕ, Some, slice_get}
use Rattle.tie_grammar.specs.declared.tree.Operation.{Operation}
use Rattle.tie_grammar.specs.declared.tree.Decl.TheVariants as d
use Rattle.tie_grammar.specs.declared.tree.Tree.{Tree}

-- the text declares this operation
abbrev pub IsOperationOf : Tree → Operation → Type 0
IsOperationOf t o = (k : ℕ) × (slice_get t.declarations k ≡ Some (d.Operation o))
