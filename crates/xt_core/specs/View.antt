-- What an instruction reads: the pc, the registers by their numbers, and the shift amount.
use Rattle.std.specs.Prelude.{ℕ, slice_index}
use Rattle.xt_core.specs.declared.registers.Registers.{Registers}

pub record View : Type 0 where
  pub pc : ℕ
  pub ar : ℕ → ℕ
  pub sar : ℕ

-- the view of these registers
abbrev pub view_of : Registers → View
view_of r = record { pc = r.pc; ar = λ n. slice_index r.ar n; sar = r.sar }
