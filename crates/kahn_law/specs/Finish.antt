-- Where a run has finished, and where the strict reference has ended.
use Rattle.std.specs.Prelude.{◌≡◌, false, ◌⊎◌, ℕ, ◌+◌, ◌<◌, ◌≤◌, length, take}
use Rattle.kahn_law.specs.Worker.{may_move, is_trapped, times}
use Rattle.kahn_law.specs.Network.{Net, inputs, strict}
use Rattle.kahn_law.specs.Causal.{Kept, values, kept_history, kept_inputs, taken_count}

-- the next move pops a queue whose items were all consumed
abbrev pub LacksItem : {A V : Type 0} → Net A V → (ℕ → Kept A V) → ℕ → Type 0
LacksItem net kept w =
    (port : ℕ) × (1 ≤ times port ((net.rule w).pops (kept w).state))
    × (length (kept_inputs net kept w port) ≤ length ((kept w).consumed port))

-- the next move pushes to a queue that is full
abbrev pub LacksRoom : {A V : Type 0} → Net A V → (ℕ → Kept A V) → ℕ → Type 0
LacksRoom net kept w =
    (out : ℕ) × (1 ≤ times out ((net.rule w).outs (kept w).state))
    × (taken_count (kept (net.reader w out).worker) (net.reader w out).port + net.capacity w out ≤ length (kept_history net kept w out))

-- a spent worker is one whose budget is used up
-- the worker has ended, or is spent, or is blocked by an empty queue or by a full one
abbrev pub IsStopped : {A V : Type 0} → Net A V → (ℕ → Kept A V) → ℕ → Type 0
IsStopped net kept w =
    (may_move (net.rule w) (kept w).state ≡ false)
    ⊎ (((net.rule w).budget ≤ (kept w).count)
    ⊎ (LacksItem net kept w ⊎ LacksRoom net kept w))

-- the run has finished
abbrev pub IsFinished : {A V : Type 0} → Net A V → (ℕ → Kept A V) → Type 0
IsFinished net kept = (w : ℕ) → w < net.workers → IsStopped net kept w

-- the worker has ended, or is spent, in the strict reference after n rounds
abbrev pub IsOver : {A V : Type 0} → Net A V → ℕ → ℕ → Type 0
IsOver net n w =
    (may_move (net.rule w) (strict net n w).now.state ≡ false)
    ⊎ ((net.rule w).budget ≤ (strict net n w).count)

-- a worker is where the strict reference is after n rounds: as many moves, the same state and mark of a trap, and the same values pushed and consumed
pub record IsAtStrict {A V : Type 0} (net : Net A V) (n w : ℕ) (kept : Kept A V) : Type 0 where
  pub count : kept.count ≡ (strict net n w).count
  pub state : kept.state ≡ (strict net n w).now.state
  pub trapped : is_trapped (net.rule w) kept.state ≡ is_trapped (net.rule w) (strict net n w).now.state
  pub pushed : (out : ℕ) → values (kept.sent out) ≡ (strict net n w).now.pushed out
  pub consumed : (port : ℕ) → values (kept.consumed port) ≡ take ((strict net n w).now.consumed port) (inputs net (strict net n) w port)

-- no worker has made fewer moves than in the strict reference, and each that is over there is over at the same place
pub record EndsAsStrict {A V : Type 0} (net : Net A V) (kept : ℕ → Kept A V) : Type 0 where
  pub reached : (n w : ℕ) → w < net.workers → (strict net n w).count ≤ (kept w).count
  pub over : (n w : ℕ) → w < net.workers → IsOver net n w → IsAtStrict net n w (kept w)
