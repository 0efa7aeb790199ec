-- What a bundle does to a state.
use Rattle.std.specs.Prelude.{ℕ, ◌+◌, Bool, true, false, List, [], ◌∷◌, Option, Some, None}
use Rattle.std.specs.List.{flat_map}
use Rattle.xt_isa.specs.declared.instruction.Inst.{Inst}
use Rattle.xt_core.specs.declared.ending.Ending.TheVariants.{Halted}
use Rattle.xt_core.specs.declared.action.Access.{Access}
use Rattle.xt_core.specs.declared.action.Access.TheVariants.{Nothing}
use Rattle.xt_core.specs.declared.action.Action.{Action}
use Rattle.xt_core.specs.Action.{action}
use Rattle.tie_desc.specs.Description.{Description}
use Rattle.tie_desc.specs.declared.bundle.Bundle.{Bundle}
use Rattle.tie_desc.specs.declared.bundle.Bundle.TheVariants as bundle
use Rattle.tie_desc.specs.declared.bundle.Part.{Part}
use Rattle.tie_desc.specs.declared.bundle.Spot.{Spot}
use Rattle.xt_operate.specs.Operate.{action_values, part_writes, view}
use Rattle.xt_state.specs.State.{State}
use Rattle.xt_exec.specs.Memory.{with_access}
use Rattle.xt_exec.specs.Places.{get, put_all}

-- the places that are written, the access to memory, the pc of a jump or a branch that is taken, whether the processor halts
pub record Effect : Type 0 where
  pub at : List (Spot × ℕ)
  pub access : Access
  pub target : Option ℕ
  pub halts : Bool

abbrev pub core_effect : Action → Effect
core_effect a = record { at = action_values a; access = a.access; target = a.target; halts = a.halts }

-- operations write places alone
abbrev pub op_effect : List (Spot × ℕ) → Effect
op_effect values = record { at = values; access = Nothing; target = None; halts = false }

-- what operations write together
abbrev pub parts_values : Description → List Part → ℕ → (Spot → ℕ) → List (Spot × ℕ)
parts_values d ps pc reads = flat_map (λ p. (part_writes d p pc reads).at) ps

-- what the parts of a bundle do together, all of them reading the same
abbrev pub effect : Description → Bundle → ℕ → (Spot → ℕ) → Effect
effect d (bundle.Core i) pc reads = core_effect (action i (view pc reads))
effect d (bundle.One p) pc reads = op_effect (parts_values d (p ∷ []) pc reads)
effect d (bundle.Wide f ps) pc reads = op_effect (parts_values d ps.items pc reads)

-- the pc of a taken branch or jump, or the one behind the bundle
abbrev pub next_pc : ℕ → Option ℕ → ℕ
next_pc behind None = behind
next_pc behind (Some target) = target

abbrev pub with_halt : Bool → State → State
with_halt true s = record s { ending = Halted }
with_halt false s = s

-- the state behind an effect: first the places are written, then memory is reached
abbrev pub after : Effect → ℕ → State → State
after e behind s = with_halt e.halts (with_access s e.access (put_all (record s { pc = next_pc behind e.target }) e.at))

-- the effect of a bundle on a state with these popped items, and the state behind it
abbrev pub effect_on : Description → Bundle → State → (ℕ → ℕ) → Effect
effect_on d b s items = effect d b s.pc (get s items)

abbrev pub next_state : Description → Bundle → ℕ → State → (ℕ → ℕ) → State
next_state d b length s items = after (effect_on d b s items) (s.pc + length) s
