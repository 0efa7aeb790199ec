-- What a step's answer tells of the next bundle.
use Rattle.std.proofs.Common.{◌≡◌, ℕ, zero, suc, ◌+◌, ◌<◌, Bool, true, false, List, [], length, Option, Some, None, refl, ap, ◌∙◌, subst, ⊎_elim, ◌⊎◌}
use Rattle.std.specs.Prelude.{◌&&◌, nat_lt, if◌then◌else◌}
use Rattle.std.specs.List.{filter, range_with_len}
use Rattle.xt_core.specs.declared.ending.Ending.{Ending}
use Rattle.xt_core.specs.declared.ending.Ending.TheVariants.{Running, Halted, Trapped}
use Rattle.xt_core.specs.declared.ending.Trap.{Trap}
use Rattle.xt_core.specs.declared.ending.Trap.TheVariants.{Illegal}
use Rattle.tie_desc.specs.declared.bundle.Bundle.{Bundle}
use Rattle.tie_desc.specs.declared.bundle.Bundle.TheVariants as bundle
use Rattle.tie_desc.specs.declared.bundle.Fetched.{Fetched}
use Rattle.tie_desc.specs.declared.bundle.Kit.{Kit}
use Rattle.xt_state.specs.State.{State}
use Rattle.xt_exec.specs.declared.answer.Step.TheVariants as steps
use Rattle.xt_exec.specs.Effect.{effect_on}
use Rattle.xt_exec.specs.Queues.{all_sent, head_of, item_of, mask, pops, pushes}
use Rattle.xt_exec.specs.Step.{BundleStep, FetchedStep, bundle_at, bundle_trap, fetched_needs, needed, trapped}
use Rattle.net_ref.specs.Processor.{is_running, fetched_trap, next_trap, with_trap, met, fetched_pops, fetched_pushes, chosen, fetched_state, fetched_writes}

pub needed_pops : (kit : Kit) (s : State) → (needed kit s).pops ≡ mask (fetched_pops kit.desc (bundle_at kit s))
needed_pops kit s = one (bundle_at kit s)
  where
    one : (o : Option Fetched) → (fetched_needs kit.desc o).pops ≡ mask (fetched_pops kit.desc o)
    one None = refl
    one (Some f) = refl

pub needed_pushes : (kit : Kit) (s : State) → (needed kit s).pushes ≡ mask (fetched_pushes kit.desc (bundle_at kit s))
needed_pushes kit s = one (bundle_at kit s)
  where
    one : (o : Option Fetched) → (fetched_needs kit.desc o).pushes ≡ mask (fetched_pushes kit.desc o)
    one None = refl
    one (Some f) = refl

pub running_is : (e : Ending) → is_running e ≡ true → e ≡ Running
running_is Running h = refl
running_is Halted h = cc
running_is (Trapped t) h = cc

-- ---- answers

pub record TrapsNext (kit : Kit) (s : State) (trap : Trap) (t : State) : Type 0 where
  pub next : next_trap kit s ≡ Some trap
  pub behind : t ≡ trapped s trap

pub step_trapped : (kit : Kit) (s : State) (heads : List (Option ℕ)) (trap : Trap) (t : State) → BundleStep kit s heads (steps.Trapped trap) t → TrapsNext kit s trap t
step_trapped kit s heads trap t h = let r = one (bundle_at kit s) h in record { next = r.0; behind = r.1 }
  where
    same : (a b : Trap) → steps.Trapped a ≡ steps.Trapped b → b ≡ a
    same a b e = cc

    one : (o : Option Fetched) → FetchedStep kit.desc s heads o (steps.Trapped trap) t → (fetched_trap s o ≡ Some trap) × (t ≡ trapped s trap)
    one None h = let e = same trap Illegal h.0 in (ap Some e, h.1 ∙ ap (trapped s) e)
    one (Some f) h = (h.0, h.1)

pub record LacksNext (kit : Kit) (s : State) (heads : List (Option ℕ)) (q : ℕ) (t : State) : Type 0 where
  pub next : next_trap kit s ≡ None
  pub below : q < length kit.desc.ins
  pub popped : fetched_pops kit.desc (bundle_at kit s) q ≡ true
  pub lacks : head_of heads q ≡ None
  pub behind : t ≡ s

pub step_needs : (kit : Kit) (s : State) (heads : List (Option ℕ)) (q : ℕ) (t : State) → BundleStep kit s heads (steps.NeedsItem q) t → LacksNext kit s heads q t
step_needs kit s heads q t h = let r = one (bundle_at kit s) h in record { next = r.0; below = r.1; popped = r.2; lacks = r.3; behind = r.4 }
  where
    differ : steps.NeedsItem q ≡ steps.Trapped Illegal → ⊥
    differ e = cc

    one : (o : Option Fetched) → FetchedStep kit.desc s heads o (steps.NeedsItem q) t
        → (fetched_trap s o ≡ None) × (q < length kit.desc.ins) × (fetched_pops kit.desc o q ≡ true) × (head_of heads q ≡ None) × (t ≡ s)
    one None h = absurd (differ h.0)
    one (Some f) h = (h.0, h.1.0.0, h.1.0.1, h.1.0.2, h.2)

pub record RetiresNext (kit : Kit) (s : State) (heads : List (Option ℕ)) (values : List (Option ℕ)) (t : State) : Type 0 where
  pub next : next_trap kit s ≡ None
  pub has : (q : ℕ) → q < length kit.desc.ins → fetched_pops kit.desc (bundle_at kit s) q ≡ true → head_of heads q ≡ None → ⊥
  pub sent : values ≡ all_sent (fetched_writes kit.desc (bundle_at kit s) s heads)
  pub behind : t ≡ fetched_state kit.desc (bundle_at kit s) s heads

pub step_stepped : (kit : Kit) (s : State) (heads values : List (Option ℕ)) (t : State) → BundleStep kit s heads (steps.Stepped values) t → RetiresNext kit s heads values t
step_stepped kit s heads values t h = let r = one (bundle_at kit s) h in record { next = r.0; has = r.1; sent = r.2; behind = r.3 }
  where
    differ : steps.Stepped values ≡ steps.Trapped Illegal → ⊥
    differ e = cc

    one : (o : Option Fetched) → FetchedStep kit.desc s heads o (steps.Stepped values) t
        → (fetched_trap s o ≡ None) × ((q : ℕ) → q < length kit.desc.ins → fetched_pops kit.desc o q ≡ true → head_of heads q ≡ None → ⊥)
        × (values ≡ all_sent (fetched_writes kit.desc o s heads)) × (t ≡ fetched_state kit.desc o s heads)
    one None h = absurd (differ h.0)
    one (Some f) h = (h.0, (λ q lt p n. h.1 q (lt, p, n)), h.3, h.4)

pub record HaltsNext (kit : Kit) (s : State) (heads : List (Option ℕ)) (t : State) : Type 0 where
  pub next : next_trap kit s ≡ None
  pub no_pops : (q : ℕ) → fetched_pops kit.desc (bundle_at kit s) q ≡ false
  pub no_pushes : (q : ℕ) → fetched_pushes kit.desc (bundle_at kit s) q ≡ false
  pub behind : t ≡ fetched_state kit.desc (bundle_at kit s) s heads

-- operations don't halt, and core instructions use no queue
pub step_halted : (kit : Kit) (s : State) (heads : List (Option ℕ)) (t : State) → BundleStep kit s heads steps.Halted t → HaltsNext kit s heads t
step_halted kit s heads t h = let r = one (bundle_at kit s) h in record { next = r.0; no_pops = r.1; no_pushes = r.2; behind = r.3 }
  where
    differ : steps.Halted ≡ steps.Trapped Illegal → ⊥
    differ e = cc

    never : false ≡ true → ⊥
    never e = cc

    quiet : (b : Bundle) → (effect_on kit.desc b s (item_of kit.desc heads)).halts ≡ true
        → ((q : ℕ) → pops kit.desc b q ≡ false) × ((q : ℕ) → pushes kit.desc b q ≡ false)
    quiet (bundle.Core i) e = ((λ q. refl), (λ q. refl))
    quiet (bundle.One p) e = absurd (never e)
    quiet (bundle.Wide f ps) e = absurd (never e)

    one : (o : Option Fetched) → FetchedStep kit.desc s heads o steps.Halted t
        → (fetched_trap s o ≡ None) × ((q : ℕ) → fetched_pops kit.desc o q ≡ false) × ((q : ℕ) → fetched_pushes kit.desc o q ≡ false)
        × (t ≡ fetched_state kit.desc o s heads)
    one None h = absurd (differ h.0)
    one (Some f) h = let k = quiet f.bundle h.2 in (h.0, k.0, k.1, h.3)

-- ---- traps

-- a bundle that traps pushes nothing
pub trap_pushes_none : (kit : Kit) (s : State) (trap : Trap) → next_trap kit s ≡ Some trap → (q : ℕ) → fetched_pushes kit.desc (bundle_at kit s) q ≡ false
trap_pushes_none kit s trap e q = one (bundle_at kit s) e
  where
    never : None ≡ Some trap → ⊥
    never e = cc

    quiet : (b : Bundle) → bundle_trap s b ≡ Some trap → pushes kit.desc b q ≡ false
    quiet (bundle.Core i) e = refl
    quiet (bundle.One p) e = absurd (never e)
    quiet (bundle.Wide f ps) e = absurd (never e)

    one : (o : Option Fetched) → fetched_trap s o ≡ Some trap → fetched_pushes kit.desc o q ≡ false
    one None e = refl
    one (Some f) e = quiet f.bundle e

pub chosen_none : (test : ℕ → Bool) (n : ℕ) → ((q : ℕ) → test q ≡ false) → chosen test n ≡ []
chosen_none test n never = from n 0
  where
    from : (k i : ℕ) → filter test (range_with_len i k) ≡ []
    from zero i = refl
    from (suc k) i = rw (never i) (from k (i + 1))

-- the state with the trap that is met
pub met_trap : (kit : Kit) (budget retired : ℕ) (s : State) (trap : Trap) → nat_lt retired budget ≡ true → is_running s.ending ≡ true → next_trap kit s ≡ Some trap
    → met kit budget retired s ≡ trapped s trap
met_trap kit budget retired s trap below running next = rw (below, running, next) refl

pub met_none : (kit : Kit) (budget retired : ℕ) (s : State) → next_trap kit s ≡ None → met kit budget retired s ≡ s
met_none kit budget retired s next = one (nat_lt retired budget && is_running s.ending)
  where
    one : (b : Bool) → (if b then with_trap s (next_trap kit s) else s) ≡ s
    one true = rw next refl
    one false = refl

pub met_spent : (kit : Kit) (budget retired : ℕ) (s : State) → nat_lt retired budget ≡ false → met kit budget retired s ≡ s
met_spent kit budget retired s spent = rw spent refl

pub met_ended : (kit : Kit) (budget retired : ℕ) (s : State) → is_running s.ending ≡ false → met kit budget retired s ≡ s
met_ended kit budget retired s ended = one (nat_lt retired budget) (is_running s.ending) ended
  where
    one : (a b : Bool) → b ≡ false → (if a && b then with_trap s (next_trap kit s) else s) ≡ s
    one true b e = rw e refl
    one false b e = refl

-- a processor that still runs has met no trap
pub still_running : (kit : Kit) (budget retired : ℕ) (s x : State) → (x ≡ s) ⊎ (x ≡ met kit budget retired s) → is_running x.ending ≡ true → x ≡ s
still_running kit budget retired s x shown running =
    ⊎_elim (λ e. e) (λ e. one (nat_lt retired budget && is_running s.ending) (next_trap kit s) e) shown
  where
    never : false ≡ true → ⊥
    never e = cc

    ended : (trap : Trap) → x ≡ trapped s trap → ⊥
    ended trap e = never (subst (λ (y : State). is_running y.ending ≡ true) e running)

    one : (b : Bool) (o : Option Trap) → x ≡ (if b then with_trap s o else s) → x ≡ s
    one true None e = e
    one true (Some trap) e = absurd (ended trap e)
    one false o e = e
