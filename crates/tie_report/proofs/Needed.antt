-- The queues that the next bundle needs, as masks.
use Rattle.std.proofs.Common.{◌≡◌, ℕ, Bool, length, map, Option, Some, None, refl, ap, ◌∙◌}
use Rattle.std.specs.Prelude.{find, slice_get}
use Rattle.tie_desc.specs.Description.{Description}
use Rattle.tie_desc.specs.declared.bundle.Fetched.{Fetched}
use Rattle.tie_desc.specs.declared.bundle.Kit.{Kit}
use Rattle.xt_state.specs.State.{State}
use Rattle.net_ref.specs.xt_exec.declared.queues.Needs.{Needs}
use Rattle.net_ref.specs.xt_exec.Queues.{mask}
use Rattle.net_ref.specs.xt_exec.Step.{bundle_at, fetched_needs, needed}
use Rattle.net_ref.specs.net_parts.declared.parts.Net.{Net}
use Rattle.net_ref.specs.net_parts.declared.parts.NetCore.{NetCore}
use Rattle.net_ref.specs.net_parts.declared.ends.RunEnd.{RunEnd}
use Rattle.net_ref.specs.Processor.{chosen, fetched_pops, fetched_pushes}
use Rattle.net_ref.specs.Workers.{capacity_of, input_queue, output_queue}
use Rattle.tie_report.specs.declared.standing.Standing.TheVariants.{Full, Running}
use Rattle.tie_report.specs.Standing.{first_empty, first_full, is_empty, is_full, waiting}

pops_are : (d : Description) (f : Option Fetched) → (fetched_needs d f).pops ≡ mask (fetched_pops d f)
pops_are d None = refl
pops_are d (Some f) = refl

pushes_are : (d : Description) (f : Option Fetched) → (fetched_needs d f).pushes ≡ mask (fetched_pushes d f)
pushes_are d None = refl
pushes_are d (Some f) = refl

needed_pops : (kit : Kit) (s : State) (n : Needs) → n ≡ needed kit s → n.pops ≡ mask (fetched_pops kit.desc (bundle_at kit s))
needed_pops kit s n e = ap (λ (n : Needs). n.pops) e ∙ pops_are kit.desc (bundle_at kit s)

needed_pushes : (kit : Kit) (s : State) (n : Needs) → n ≡ needed kit s → n.pushes ≡ mask (fetched_pushes kit.desc (bundle_at kit s))
needed_pushes kit s n e = ap (λ (n : Needs). n.pushes) e ∙ pushes_are kit.desc (bundle_at kit s)

pub empty_is : (net : Net) (end : RunEnd) (c : ℕ) (here : NetCore) (s : State) (n : Needs) (count : ℕ) (r : Option ℕ) → n ≡ needed here.kit s → count ≡ length here.kit.desc.ins
    → ((test : ℕ → Bool) → n.pops ≡ mask test → r ≡ find (λ q. is_empty (slice_get end.queues.items q)) (map (input_queue net c) (chosen test count)))
    → r ≡ first_empty net end c here s
empty_is net end c here s n count r is-n is-count found =
    let test : ℕ → Bool = fetched_pops here.kit.desc (bundle_at here.kit s) in
    found test (needed_pops here.kit s n is-n) ∙ ap (λ m. find (λ q. is_empty (slice_get end.queues.items q)) (map (input_queue net c) (chosen test m))) is-count

pub full_is : (net : Net) (end : RunEnd) (c : ℕ) (here : NetCore) (s : State) (n : Needs) (count : ℕ) (r : Option ℕ) → n ≡ needed here.kit s → count ≡ length here.kit.desc.outs
    → ((test : ℕ → Bool) → n.pushes ≡ mask test
    → r ≡ find (λ q. is_full (capacity_of (slice_get net.queues.items q)) (slice_get end.queues.items q)) (map (output_queue net c) (chosen test count)))
    → r ≡ first_full net end c here s
full_is net end c here s n count r is-n is-count found =
    let test : ℕ → Bool = fetched_pushes here.kit.desc (bundle_at here.kit s) in
    found test (needed_pushes here.kit s n is-n)
    ∙ ap (λ m. find (λ q. is_full (capacity_of (slice_get net.queues.items q)) (slice_get end.queues.items q)) (map (output_queue net c) (chosen test m))) is-count

pub waits_full : (empty full : Option ℕ) (q : ℕ) → None ≡ empty → Some q ≡ full → Full q ≡ waiting empty full
waits_full empty full q none some = ap (λ o. waiting None o) some ∙ ap (λ o. waiting o full) none

pub waits_not : (empty full : Option ℕ) → None ≡ empty → None ≡ full → Running ≡ waiting empty full
waits_not empty full none none' = ap (λ o. waiting None o) none' ∙ ap (λ o. waiting o full) none
