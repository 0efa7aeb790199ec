-- The state of a processor, as contracts see it.
use Rattle.std.specs.Prelude.{ℕ, ◌-◌, List, [], ◌++◌, length, map, replicate, slice_index_or}
use Rattle.tie_expr.specs.Word.{Word}
use Rattle.xt_core.specs.declared.ending.Ending.{Ending}
use Rattle.xt_core.specs.declared.ending.Ending.TheVariants.{Running}

-- a register file: the width of its registers, and what they hold
pub record File : Type 0 where
  pub width : ℕ
  pub values : List ℕ

-- pc, the registers a0 to a15, the shift amount, the states, the register files, the bytes of memory, the address behind
-- the text, and the ending
pub record State : Type 0 where
  pub pc : ℕ
  pub registers : List ℕ
  pub sar : ℕ
  pub states : List Word
  pub files : List File
  pub memory : List ℕ
  pub text_end : ℕ
  pub ending : Ending

-- a memory of so many bytes with a text from address 0 on, and zeros behind it
unfoldable pub loaded : ℕ → List ℕ → List ℕ
loaded size text = text ++ replicate (size - length text) 0

-- a file of this width and depth, all of whose registers are 0
abbrev pub zero_file : ℕ × ℕ → File
zero_file shape = record { width = shape.0; values = replicate shape.1 0 }

-- a state at the start: these states, zeros in files of these widths and depths, a memory of so many bytes with this text
abbrev pub initial : List Word → List (ℕ × ℕ) → ℕ → List ℕ → State
initial states files size text = record {
  pc = 0;
  registers = replicate 16 0;
  sar = 0;
  states = states;
  files = map zero_file files;
  memory = loaded size text;
  text_end = length text;
  ending = Running;
}

-- the state, and the file, of a number
abbrev pub state_at : State → ℕ → Word
state_at s i = slice_index_or s.states i (record { width = 0; value = 0 })

abbrev pub file_at : State → ℕ → File
file_at s f = slice_index_or s.files f (record { width = 0; values = [] })
