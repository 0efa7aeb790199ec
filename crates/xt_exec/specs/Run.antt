-- Bundles one after the other, up to a budget of retirements, where no queue has an item.
use Rattle.std.specs.Prelude.{◌≡◌, ◌⊎◌, ℕ, zero, suc, ◌<◌, ◌≤◌, List, [], Option}
use Rattle.xt_core.specs.declared.ending.Ending.TheVariants.{Running, Halted}
use Rattle.xt_core.specs.declared.ending.Trap.{Trap}
use Rattle.tie_desc.specs.Description.{Description}
use Rattle.tie_desc.specs.declared.bundle.Kit.{Kit}
use Rattle.xt_state.specs.State.{State}
use Rattle.xt_exec.specs.declared.answer.Step.TheVariants as steps
use Rattle.xt_exec.specs.Queues.{no_heads}
use Rattle.xt_exec.specs.Step.{BundleStep}

-- a description that declares no queue
abbrev pub HasNoQueues : Description → Type 0
HasNoQueues d = (d.ins ≡ []) × (d.outs ≡ [])

-- a running processor retires one bundle
abbrev pub Retires : Kit → State → State → Type 0
Retires kit s t =
    (s.ending ≡ Running) × (((pushed : List (Option ℕ)) × BundleStep kit s no_heads (steps.Stepped pushed) t) ⊎ BundleStep kit s no_heads steps.Halted t)

-- the state after so many retirements
abbrev pub Retired : Kit → ℕ → State → State → Type 0
Retired kit zero s t = t ≡ s
Retired kit (suc k) s t = (m : State) × Retired kit k s m × Retires kit m t

-- it has halted, or still runs with its budget used up
abbrev pub IsDone : ℕ → ℕ → State → Type 0
IsDone budget k t = (t.ending ≡ Halted) ⊎ ((t.ending ≡ Running) × (k ≡ budget))

-- the next bundle of a running processor traps
abbrev pub MeetsTrap : Kit → State → State → Type 0
MeetsTrap kit m t = (m.ending ≡ Running) × (trap : Trap) × BundleStep kit m no_heads (steps.Trapped trap) t

-- a run stops after k retirements: done, or below its budget with a trap
abbrev pub Stopped : Kit → ℕ → State → ℕ → State → Type 0
Stopped kit budget s k t =
    (Retired kit k s t × (k ≤ budget) × IsDone budget k t)
    ⊎ ((m : State) × Retired kit k s m × (k < budget) × MeetsTrap kit m t)
