-- Actions that a processor can carry out: registers below 16, SAR from 0 to 32, accesses of one, two or four bytes.
use Rattle.std.specs.Prelude.{◌≡◌, ◌⊎◌, ℕ, ◌<◌, ◌≤◌, Option, Some, None}
use Rattle.xt_core.specs.declared.action.Access.{Access}
use Rattle.xt_core.specs.declared.action.Access.TheVariants.{Nothing, Load, Store}
use Rattle.xt_core.specs.declared.action.Action.{Action}

abbrev pub IsSize : ℕ → Type 0
IsSize bytes = (bytes ≡ 1) ⊎ ((bytes ≡ 2) ⊎ (bytes ≡ 4))

abbrev pub IsAccess : Access → Type 0
IsAccess Nothing = Unit {0}
IsAccess (Load address bytes signed to) = IsSize bytes × (to < 16)
IsAccess (Store address bytes value) = IsSize bytes

abbrev pub IsRegisterWrite : Option (ℕ × ℕ) → Type 0
IsRegisterWrite None = Unit {0}
IsRegisterWrite (Some w) = w.0 < 16

abbrev pub IsShiftAmount : Option ℕ → Type 0
IsShiftAmount None = Unit {0}
IsShiftAmount (Some amount) = amount ≤ 32

pub record IsWritable (a : Action) : Type 0 where
  pub write : IsRegisterWrite a.write
  pub sar : IsShiftAmount a.sar
  pub access : IsAccess a.access
