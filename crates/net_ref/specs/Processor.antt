-- A processor between its bundles: what the next one pops and pushes, and what it does with the popped items.
use Rattle.std.specs.Prelude.{ℕ, Bool, true, false, ◌==◌, ◌&&◌, nat_lt, if◌then◌else◌, List, [], ◌∷◌, length, filter, Option, Some, None}
use Rattle.std.specs.List.{range_with_len}
use Rattle.xt_core.specs.declared.ending.Ending.{Ending}
use Rattle.xt_core.specs.declared.ending.Ending.TheVariants.{Running, Halted, Trapped}
use Rattle.xt_core.specs.declared.ending.Trap.{Trap}
use Rattle.xt_core.specs.declared.ending.Trap.TheVariants.{Illegal}
use Rattle.tie_desc.specs.Description.{Description}
use Rattle.tie_desc.specs.declared.bundle.Fetched.{Fetched}
use Rattle.tie_desc.specs.declared.bundle.Kit.{Kit}
use Rattle.tie_desc.specs.declared.bundle.Spot.{Spot}
use Rattle.xt_state.specs.State.{State}
use Rattle.xt_exec.specs.Effect.{effect_on, next_state}
use Rattle.xt_exec.specs.Queues.{pops, pushes, item_of}
use Rattle.xt_exec.specs.Step.{bundle_at, bundle_trap, trapped}

abbrev pub is_running : Ending → Bool
is_running Running = true
is_running Halted = false
is_running (Trapped trap) = false

-- the trap of what stands at the pc, if any; where no bundle does, it is illegal
abbrev pub fetched_trap : State → Option Fetched → Option Trap
fetched_trap s None = Some Illegal
fetched_trap s (Some f) = bundle_trap s f.bundle

abbrev pub next_trap : Kit → State → Option Trap
next_trap kit s = fetched_trap s (bundle_at kit s)

-- a state with the trap that it meets, if any
abbrev pub with_trap : State → Option Trap → State
with_trap s None = s
with_trap s (Some trap) = trapped s trap

-- the state of a processor that has met the trap of its next bundle, where it has one and a running processor below its budget meets it
abbrev pub met : Kit → ℕ → ℕ → State → State
met kit budget retired s = if nat_lt retired budget && is_running s.ending then with_trap s (next_trap kit s) else s

-- whether a bundle pops an input queue, and pushes an output queue
abbrev pub fetched_pops : Description → Option Fetched → ℕ → Bool
fetched_pops d None i = false
fetched_pops d (Some f) i = pops d f.bundle i

abbrev pub fetched_pushes : Description → Option Fetched → ℕ → Bool
fetched_pushes d None o = false
fetched_pushes d (Some f) o = pushes d f.bundle o

-- the numbers below n that pass
abbrev pub chosen : (ℕ → Bool) → ℕ → List ℕ
chosen test n = filter test (range_with_len 0 n)

-- the input queues that the next bundle pops, and the output queues that it pushes, in declared order
abbrev pub next_pops : Kit → State → List ℕ
next_pops kit s = chosen (fetched_pops kit.desc (bundle_at kit s)) (length kit.desc.ins)

abbrev pub next_pushes : Kit → State → List ℕ
next_pushes kit s = chosen (fetched_pushes kit.desc (bundle_at kit s)) (length kit.desc.outs)

-- of values that were popped of these queues, the one of queue q
abbrev pub popped_of : List ℕ → List ℕ → ℕ → Option ℕ
popped_of [] vs q = None
popped_of (p ∷ ps) [] q = None
popped_of (p ∷ ps) (v ∷ vs) q = if p == q then Some v else popped_of ps vs q

-- the heads of the eight input queues: those that were popped, and no others
abbrev pub heads_of : List ℕ → List ℕ → List (Option ℕ)
heads_of ps vs =
    popped_of ps vs 0 ∷ popped_of ps vs 1 ∷ popped_of ps vs 2 ∷ popped_of ps vs 3 ∷ popped_of ps vs 4 ∷ popped_of ps vs 5
    ∷ popped_of ps vs 6 ∷ popped_of ps vs 7 ∷ []

-- the state behind what stands at the pc, and what that writes
abbrev pub fetched_state : Description → Option Fetched → State → List (Option ℕ) → State
fetched_state d None s heads = s
fetched_state d (Some f) s heads = next_state d f.bundle f.length s (item_of d heads)

abbrev pub fetched_writes : Description → Option Fetched → State → List (Option ℕ) → List (Spot × ℕ)
fetched_writes d None s heads = []
fetched_writes d (Some f) s heads = (effect_on d f.bundle s (item_of d heads)).at

-- the state behind the next bundle, and what this writes, where it popped these values
abbrev pub state_after : Kit → State → List ℕ → State
state_after kit s vs = fetched_state kit.desc (bundle_at kit s) s (heads_of (next_pops kit s) vs)

abbrev pub writes_after : Kit → State → List ℕ → List (Spot × ℕ)
writes_after kit s vs = fetched_writes kit.desc (bundle_at kit s) s (heads_of (next_pops kit s) vs)
