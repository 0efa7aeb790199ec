-- The kinds of action.
use Rattle.std.specs.Prelude.{ℕ, Bool, false, if◌then◌else◌, Some, None}
use Rattle.xt_core.specs.declared.action.Access.TheVariants.{Nothing, Load, Store}
use Rattle.xt_core.specs.declared.action.Action.{Action}

abbrev pub idle : Action
idle = record { write = None; sar = None; target = None; access = Nothing; halts = false }

abbrev pub gives : ℕ → ℕ → Action
gives r value = record idle { write = Some (r, value) }

abbrev pub shifts_by : ℕ → Action
shifts_by amount = record idle { sar = Some amount }

abbrev pub goes : ℕ → Action
goes pc = record idle { target = Some pc }

abbrev pub calls : ℕ → ℕ → Action
calls back pc = record idle { write = Some (0, back); target = Some pc }

abbrev pub loads : ℕ → ℕ → Bool → ℕ → Action
loads address bytes signed to = record idle { access = Load address bytes signed to }

abbrev pub stores : ℕ → ℕ → ℕ → Action
stores address bytes value = record idle { access = Store address bytes value }

-- an action under a condition
abbrev pub only_if : Bool → Action → Action
only_if condition action = if condition then action else idle
