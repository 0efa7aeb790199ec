-- What places hold, and writes to them.
use Rattle.std.specs.Prelude.{ℕ, List, [], ◌∷◌, slice_index, slice_set}
use Rattle.xt_core.specs.View.{View}
use Rattle.tie_desc.specs.declared.bundle.Spot.{Spot}
use Rattle.tie_desc.specs.declared.bundle.Spot.TheVariants as spot
use Rattle.xt_state.specs.State.{State, file_at, state_at}

-- what a place holds; an input queue stands for the item that is popped of it
abbrev pub get : State → (ℕ → ℕ) → Spot → ℕ
get s items (spot.Ar n) = slice_index s.registers n
get s items spot.Sar = s.sar
get s items (spot.State i) = (state_at s i).value
get s items (spot.File f n) = slice_index (file_at s f).values n
get s items (spot.In q) = items q
get s items (spot.Out q) = 0

-- the state with a place written; what goes to a queue leaves the state
abbrev pub put : State → Spot → ℕ → State
put s (spot.Ar n) v = record s { registers = slice_set s.registers n v }
put s spot.Sar v = record s { sar = v }
put s (spot.State i) v = record s { states = slice_set s.states i (record { width = (state_at s i).width; value = v }) }
put s (spot.File f n) v =
    record s { files = slice_set s.files f (record { width = (file_at s f).width; values = slice_set (file_at s f).values n v }) }
put s (spot.In q) v = s
put s (spot.Out q) v = s

-- one write after the other
abbrev pub put_all : State → List (Spot × ℕ) → State
put_all s [] = s
put_all s (x ∷ xs) = put_all (put s x.0 x.1) xs

-- what core instructions read
abbrev pub core_view : State → View
core_view s = record { pc = s.pc; ar = λ n. slice_index s.registers n; sar = s.sar }
