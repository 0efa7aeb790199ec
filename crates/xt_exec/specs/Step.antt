-- One step of a running processor.
use Rattle.std.specs.Prelude.{◌≡◌, ℕ, true, false, List, Option, Some, None, option_and_then, slice_get}
use Rattle.xt_core.specs.declared.ending.Ending.TheVariants.{Trapped}
use Rattle.xt_core.specs.declared.ending.Trap.{Trap}
use Rattle.xt_core.specs.declared.ending.Trap.TheVariants.{Illegal}
use Rattle.xt_core.specs.Action.{action}
use Rattle.tie_desc.specs.Description.{Description}
use Rattle.tie_desc.specs.declared.bundle.Bundle.{Bundle}
use Rattle.tie_desc.specs.declared.bundle.Bundle.TheVariants as bundle
use Rattle.tie_desc.specs.declared.bundle.Fetched.{Fetched}
use Rattle.tie_desc.specs.declared.bundle.Kit.{Kit}
use Rattle.xt_state.specs.State.{State}
use Rattle.xt_exec.specs.declared.answer.Step.{Step}
use Rattle.xt_exec.specs.declared.answer.Step.TheVariants as steps
use Rattle.xt_exec.specs.Memory.{access_trap}
use Rattle.xt_exec.specs.Places.{core_view}
use Rattle.xt_exec.specs.declared.queues.Needs.{Needs}
use Rattle.xt_exec.specs.Queues.{HasItems, IsFirstLacking, all_sent, item_of, mask, pops, pushes}
use Rattle.xt_exec.specs.Effect.{effect_on, next_state}

-- the bundle at the pc: what the image has there
abbrev pub bundle_at : Kit → State → Option Fetched
bundle_at kit s = option_and_then (λ o. o) (slice_get kit.image.at s.pc)

-- the trap of a bundle: that of its access; operations have none
abbrev pub bundle_trap : State → Bundle → Option Trap
bundle_trap s (bundle.Core i) = access_trap s (action i (core_view s)).access
bundle_trap s (bundle.One p) = None
bundle_trap s (bundle.Wide f ps) = None

abbrev pub trapped : State → Trap → State
trapped s trap = record s { ending = Trapped trap }

-- the step of a bundle of so many bytes, by cases on its answer, where the input queues have these heads. At a trap
-- nothing but the ending changes; where an item is lacking nothing does. A retirement pushes what it writes to each
-- output queue.
abbrev pub Acts : Description → State → List (Option ℕ) → Bundle → ℕ → Step → State → Type 0
Acts d s heads b length (steps.Trapped trap) t = (bundle_trap s b ≡ Some trap) × (t ≡ trapped s trap)
Acts d s heads b length (steps.NeedsItem q) t = (bundle_trap s b ≡ None) × IsFirstLacking d b heads q × (t ≡ s)
Acts d s heads b length (steps.Stepped pushed) t =
    (bundle_trap s b ≡ None) × HasItems d b heads × ((effect_on d b s (item_of d heads)).halts ≡ false)
    × (pushed ≡ all_sent (effect_on d b s (item_of d heads)).at) × (t ≡ next_state d b length s (item_of d heads))
Acts d s heads b length steps.Halted t =
    (bundle_trap s b ≡ None) × HasItems d b heads × ((effect_on d b s (item_of d heads)).halts ≡ true)
    × (t ≡ next_state d b length s (item_of d heads))

-- the step of what stands at the pc; where no bundle does, it is illegal
abbrev pub FetchedStep : Description → State → List (Option ℕ) → Option Fetched → Step → State → Type 0
FetchedStep d s heads None answer t = (answer ≡ steps.Trapped Illegal) × (t ≡ trapped s Illegal)
FetchedStep d s heads (Some f) answer t = Acts d s heads f.bundle f.length answer t

abbrev pub BundleStep : Kit → State → List (Option ℕ) → Step → State → Type 0
BundleStep kit s heads answer t = FetchedStep kit.desc s heads (bundle_at kit s) answer t

-- the queues that the bundle at the pc uses. A bundle that traps is a core instruction, which uses none.
abbrev pub fetched_needs : Description → Option Fetched → Needs
fetched_needs d None = record { pops = 0; pushes = 0 }
fetched_needs d (Some f) = record { pops = mask (pops d f.bundle); pushes = mask (pushes d f.bundle) }

abbrev pub needed : Kit → State → Needs
needed kit s = fetched_needs kit.desc (bundle_at kit s)
