-- The first state of a description: its states at their reset values, its files zeros.
use Rattle.std.specs.Prelude.{ℕ, List, map}
use Rattle.tie_expr.specs.Word.{Word}
use Rattle.tie_desc.specs.Description.{Description}
use Rattle.tie_desc.specs.declared.declarations.StateDecl.{StateDecl}
use Rattle.tie_desc.specs.declared.declarations.FileDecl.{FileDecl}
use Rattle.xt_state.specs.State.{State, initial}

abbrev pub reset_word : StateDecl → Word
reset_word x = record { width = x.width; value = x.reset }

-- width and depth
abbrev pub file_shape : FileDecl → ℕ × ℕ
file_shape f = (f.width, f.depth)

abbrev pub first_state : Description → ℕ → List ℕ → State
first_state d memory text = initial (map reset_word d.states) (map file_shape d.files) memory text
