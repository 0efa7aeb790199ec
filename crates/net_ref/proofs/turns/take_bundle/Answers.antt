use Rattle.std.proofs.Common.{◌≡◌, ℕ, Bool, List, length, refl, ap, subst, ◌∙◌}
use Rattle.xt_exec.specs.Queues.{mask}
use Rattle.net_ref.specs.Shown.{AreConsumed, AreExtended, IsTable, queues_of, shown_heads}
use Rattle.net_ref.specs.Processor.{chosen, is_running}
use Rattle.net_ref.specs.Workers.{values_to}
use Rattle.net_ref.proofs.Bundles.{bundle_traps, bundle_lacks, bundle_halts, bundle_retires}
use Rattle.net_ref.proofs.turns.take_bundle.Goals as goal

pub returns-in_ok-push_all-in-Stepped-clause-turn : goal.returns-in_ok-push_all-in-Stepped-clause-turn
returns-in_ok-push_all-in-Stepped-clause-turn c bounded net n nodes turn gate =
    bundle_retires bounded net n nodes c.args.core.now c.args.ports.now c.args.at.now _ c.args.channels.now c.consume.new.channels c.push_all.new.channels c.args.needs c.heads-heads.result c.in-Stepped.pushed
    (record { turn = turn; gate = gate; running = ap is_running c.requires.running; below = c.requires.below; few = c.requires.few_ins; needed_is = c.requires.needs; heads_are = subst (λ (xs : List ℕ). (test : ℕ → Bool) → c.args.needs.pops ≡ mask test → c.heads-heads.result ≡ shown_heads c.args.channels.now xs test) c.as_slice.ensures.value c.heads-heads.ensures })
    (λ q z at. z.within) c.in-Stepped.ensures.step
    (subst (λ (xs : List ℕ). (test : ℕ → Bool) (f : ℕ → ℕ) → c.args.needs.pops ≡ mask test → IsTable f xs → AreConsumed (queues_of f test (length xs)) c.args.channels.now c.consume.new.channels)
    c.as_slice-in-Stepped.ensures.value c.consume.ensures)
    (subst (λ (xs : List ℕ). (test : ℕ → Bool) (f : ℕ → ℕ) → c.args.needs.pushes ≡ mask test → IsTable f xs → AreExtended (values_to f c.in-Stepped.pushed (chosen test (length xs))) c.consume.new.channels c.push_all.new.channels)
    c.as_slice-in-Stepped-2.ensures.value c.in_ok-push_all-in-Stepped.ensures)
    (c.push_all.auto.channels ∙ c.consume.auto.channels) refl

pub returns-in-Halted-clause-turn : goal.returns-in-Halted-clause-turn
returns-in-Halted-clause-turn c bounded net n nodes turn gate =
    bundle_halts bounded net n nodes c.args.core.now c.args.ports.now c.args.at.now _ c.args.channels.now c.args.needs c.heads-heads.result
    (record { turn = turn; gate = gate; running = ap is_running c.requires.running; below = c.requires.below; few = c.requires.few_ins; needed_is = c.requires.needs; heads_are = subst (λ (xs : List ℕ). (test : ℕ → Bool) → c.args.needs.pops ≡ mask test → c.heads-heads.result ≡ shown_heads c.args.channels.now xs test) c.as_slice.ensures.value c.heads-heads.ensures })
    c.in-Halted.ensures.step refl

pub returns-in-Trapped-clause-turn : goal.returns-in-Trapped-clause-turn
returns-in-Trapped-clause-turn c bounded net n nodes turn gate =
    bundle_traps bounded net n nodes c.args.core.now c.args.ports.now c.args.at.now _ c.args.channels.now c.args.needs c.heads-heads.result c.in-Trapped.field-0
    (record { turn = turn; gate = gate; running = ap is_running c.requires.running; below = c.requires.below; few = c.requires.few_ins; needed_is = c.requires.needs; heads_are = subst (λ (xs : List ℕ). (test : ℕ → Bool) → c.args.needs.pops ≡ mask test → c.heads-heads.result ≡ shown_heads c.args.channels.now xs test) c.as_slice.ensures.value c.heads-heads.ensures })
    c.in-Trapped.ensures.step refl

pub returns-in-NeedsItem-clause-turn : goal.returns-in-NeedsItem-clause-turn
returns-in-NeedsItem-clause-turn c bounded net n nodes turn gate =
    bundle_lacks bounded net n nodes c.args.core.now c.args.ports.now c.args.at.now _ c.args.channels.now c.args.needs c.heads-heads.result c.in-NeedsItem.field-0
    (record { turn = turn; gate = gate; running = ap is_running c.requires.running; below = c.requires.below; few = c.requires.few_ins; needed_is = c.requires.needs; heads_are = subst (λ (xs : List ℕ). (test : ℕ → Bool) → c.args.needs.pops ≡ mask test → c.heads-heads.result ≡ shown_heads c.args.channels.now xs test) c.as_slice.ensures.value c.heads-heads.ensures })
    c.in-NeedsItem.ensures.step refl
